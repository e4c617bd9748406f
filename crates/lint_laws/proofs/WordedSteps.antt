-- A reason that the words of steps give has its place among them.
-- Cited by `WordedLines`.
use Rattle.std.proofs.Common.{◌≡◌, ℕ, suc, ◌-◌, Bool, true, false, cond, eqb, List, [], ◌∷◌, ◌++◌, map, refl, sym, ap, subst, ◌∙◌, Option}
use Rattle.std.proofs.Common.{Some, None, Result, Ok, Err, arith, append_assoc}
use Rattle.std.specs.Prelude.{◌||◌, ◌^◌, is_some, unwrap_or, codes}
use Rattle.std.specs.Result.{result_err}
use Rattle.std.specs.List.{slice_split, All}
use Rattle.std.proofs.lemmas.Bool.{eqb-true}
use Rattle.std.proofs.lemmas.List.{append-nil}
use Rattle.std.proofs.lemmas.List.Elements.{All-head, All-tail, All-push}
use Rattle.std.proofs.lemmas.List.Splits.{slice_split_none, slice_split_at}
use Rattle.task_base.specs.declared.step.Step.{Step as StepOf}
use Rattle.task_base.specs.declared.step.Step.TheVariants as steps
use Rattle.task_base.specs.declared.limits.TheConstants.{MOST_MICROSECONDS}
use Rattle.value_words.specs.Words.{scope_named}
use Rattle.script_model.specs.Words.{is_word, is_mark}
use Rattle.script_model.specs.Reasons.{◌>>=◌, ◌>>◌, ◌&◌, unknown_word, word_count}
use Rattle.script_model.specs.Places.{name_at, ends_at, number_at, id_at, time_at, compute_read, post_read, block_read, step_said}
use Rattle.script_model.specs.Places.{step_read, all_read, steps_read}
use Rattle.line_places.specs.declared.expected.Language.TheVariants.{Script}
use Rattle.line_places.specs.declared.expected.Thing.{Thing}
use Rattle.line_places.specs.declared.expected.Thing.TheVariants as things
use Rattle.line_places.specs.declared.expected.Expected.{Expected}
use Rattle.line_places.specs.declared.expected.Expected.TheVariants.{Step, Steps, Number, Id, Scope, End}
use Rattle.line_places.specs.declared.expected.Found.{Found}
use Rattle.line_places.specs.Tables.{script_steps}
use Rattle.line_places.specs.Faults.{choice_fault, fault_of, is_required, takes_word}
use Rattle.line_places.specs.First.{sought_by, found_at, is_steps, missing, behind_word, turn_at_word, turn_at_mark, turn, first_of_steps}
use Rattle.lint_laws.specs.Told.{is_reason}
use Rattle.lint_laws.proofs.GivenPlaces.{other_reason, gives, PlacesGive, one_gives, both, last, made, then_made, number_gives, id_gives, time_gives, scope_gives, end_gives}

-- ---- the places of a step

-- a place of a step where a word is needed
record NeedsWord (h : Expected) : Type 0 where
  required : is_required h ≡ true
  takes : takes_word h ≡ true
  plain : is_steps h ≡ false
  behind : (rest : List Expected) (word : List ℕ) → behind_word Script h rest word ≡ rest

abbrev AllNeedWords : List Expected → Type 0
AllNeedWords [] = Unit {0}
AllNeedWords (h ∷ needed) = NeedsWord h × AllNeedWords needed

-- the places of a step behind its name: words are needed, and then the step ends
abbrev of_step : List Expected → List Expected
of_step needed = needed ++ End ∷ []

number_needed : (low high : ℕ) → NeedsWord (Number low high)
number_needed low high = record { required = refl; takes = refl; plain = refl; behind = λ rest word. refl }

id_needed : (of : Thing) → NeedsWord (Id of)
id_needed of = record { required = refl; takes = refl; plain = refl; behind = λ rest word. refl }

scope_needed : NeedsWord Scope
scope_needed = record { required = refl; takes = refl; plain = refl; behind = λ rest word. refl }

-- the words behind those of a step: none, or `;` and others
abbrev IsBehind : List (List ℕ) → Type 0
IsBehind [] = Unit {0}
IsBehind (word ∷ words) = is_mark word ≡ true

-- what is found from a place on, by what its turn gives
abbrev go_on : ℕ → List (List ℕ) → ℕ → Result (List Expected) Found → Option Found
go_on reason words place result = elim result as (λ _. Option Found) [
  | Ok next ↦ first_of_steps Script (Some reason) next words (suc place)
  | Err at ↦ Some at
]

-- a turn by what is found at its word, or else those are expected
abbrev turn_by : List Expected → Option Found → Result (List Expected) Found
turn_by next o = elim o as (λ _. Result (List Expected) Found) [
  | None ↦ Ok next
  | Some at ↦ Err at
]

missing_found : (here : Bool) (reason place : ℕ) (h : Expected) → here ≡ true → eqb word_count reason ≡ true
    → is_some (missing (Some reason) here place h) ≡ true
missing_found true reason place h is e = ap (λ b. is_some (found_at (cond b (Some word_count) None) place h)) e
missing_found false reason place h is e = absurd cc

-- a word is missing, and that is sought
missing_here : (h : Expected) (rest : List Expected) (behind : List (List ℕ)) (reason place : ℕ) → IsBehind behind → is_required h ≡ true → takes_word h ≡ true
    → eqb word_count reason ≡ true → is_some (first_of_steps Script (Some reason) (h ∷ rest) behind place) ≡ true
unfolding first_of_steps
missing_here h rest [] reason place mark required takes e = missing_found (is_required h) reason place h required e
missing_here h rest (word ∷ words) reason place mark required takes e =
    by_mark (is_mark word) mark (missing (Some reason) (takes_word h) place h) (missing_found (takes_word h) reason place h takes e)
  where
    by_mark : (b : Bool) → b ≡ true → (o : Option Found) → is_some o ≡ true
        → is_some (go_on reason words place (cond b (turn_by (Step ∷ []) o) (turn_at_word Script (Some reason) (h ∷ rest) word place))) ≡ true
    by_mark true is None e = absurd cc
    by_mark true is (Some at) e = refl
    by_mark false is o e = absurd cc

-- the turn at a word that is no `;`
at_word : (h : Expected) (rest : List Expected) (word : List ℕ) (words : List (List ℕ)) (reason place : ℕ) → is_mark word ≡ false
    → (is_reason reason (fault_of Script h word) ≡ false
    → is_some (first_of_steps Script (Some reason) (behind_word Script h rest word) words (suc place)) ≡ true)
    → is_some (first_of_steps Script (Some reason) (h ∷ rest) (word ∷ words) place) ≡ true
unfolding first_of_steps
at_word h rest word words reason place plain behind =
    by_mark (is_mark word) plain (found_at (sought_by (Some reason) (fault_of Script h word)) place h)
    (λ none. behind (other_reason reason place h (fault_of Script h word) none))
  where
    by_mark : (m : Bool) → m ≡ false → (o : Option Found)
        → (o ≡ None → is_some (first_of_steps Script (Some reason) (behind_word Script h rest word) words (suc place)) ≡ true)
        → is_some (go_on reason words place (cond m (turn_at_mark (Some reason) (h ∷ rest) place) (turn_by (behind_word Script h rest word) o))) ≡ true
    by_mark true is o behind = absurd cc
    by_mark false is None behind = behind refl
    by_mark false is (Some at) behind = refl

behind_first : (a b : Bool) → (a || b) ≡ true → a ≡ false → b ≡ true
behind_first true b e f = absurd cc
behind_first false b e f = e

-- where no word stands, the one reason is that it is missing
none_gives : (needed : List Expected) (reason : ℕ) → AllNeedWords needed → gives reason (of_step needed) [] ≡ true → eqb word_count reason ≡ true
none_gives [] reason are e = absurd cc
none_gives (h ∷ needed) reason are e =
    by_tests (is_steps h) are.0.plain (is_required h) are.0.required (eqb word_count reason) refl e (none_gives needed reason are.1)
  where
    by_tests : (p : Bool) → p ≡ false → (q : Bool) → q ≡ true → (b : Bool) → eqb word_count reason ≡ b
        → cond p (is_reason reason (result_err (steps_read [])))
        (is_reason reason (cond q (Some word_count) None) || gives reason (of_step needed) []) ≡ true
        → (gives reason (of_step needed) [] ≡ true → eqb word_count reason ≡ true) → eqb word_count reason ≡ true
    by_tests true plain q required b is e behind = absurd cc
    by_tests false plain false required b is e behind = absurd cc
    by_tests false plain true required true is e behind = is
    by_tests false plain true required false is e behind = behind (behind_first (eqb word_count reason) (gives reason (of_step needed) []) e is)

-- no word of these is `;`
abbrev pub NoMark : List (List ℕ) → Type 0
NoMark words = All (λ word. is_mark word ≡ false) words

unfold_first : (h : Expected) (rest : List Expected) (word : List ℕ) (words : List (List ℕ)) (reason : ℕ) → is_steps h ≡ false
    → gives reason (h ∷ rest) (word ∷ words) ≡ true → is_reason reason (fault_of Script h word) ≡ false → gives reason rest words ≡ true
unfold_first h rest word words reason plain e none =
    behind_first (is_reason reason (fault_of Script h word)) (gives reason rest words) (by_steps (is_steps h) plain e) none
  where
    by_steps : (p : Bool) → p ≡ false
        → cond p (is_reason reason (result_err (steps_read (word ∷ words))))
        (is_reason reason (fault_of Script h word) || gives reason rest words) ≡ true
        → (is_reason reason (fault_of Script h word) || gives reason rest words) ≡ true
    by_steps true plain e = absurd cc
    by_steps false plain e = e

-- a reason that the words of a step give has its place among them
places_found : (needed : List Expected) (words behind : List (List ℕ)) (reason place : ℕ) → AllNeedWords needed → NoMark words → IsBehind behind
    → gives reason (of_step needed) words ≡ true → is_some (first_of_steps Script (Some reason) (of_step needed) (words ++ behind) place) ≡ true
places_found [] [] behind reason place are plain mark e = absurd cc
places_found [] (word ∷ words) behind reason place are plain mark e =
    at_word End [] word (words ++ behind) reason place (All-head (λ w. is_mark w ≡ false) word words plain)
    (λ none. absurd (let some : false ≡ true = behind_first (is_reason reason (fault_of Script End word)) false e none in cc))
places_found (h ∷ needed) [] behind reason place are plain mark e =
    missing_here h (of_step needed) behind reason place mark are.0.required are.0.takes (none_gives (h ∷ needed) reason are e)
places_found (h ∷ needed) (word ∷ words) behind reason place are plain mark e =
    at_word h (of_step needed) word (words ++ behind) reason place (All-head (λ w. is_mark w ≡ false) word words plain)
    (λ none. subst (λ next. is_some (first_of_steps Script (Some reason) next (words ++ behind) (suc place)) ≡ true) (sym (are.0.behind (of_step needed) word))
    (places_found needed words behind reason (suc place) are.1 (All-tail (λ w. is_mark w ≡ false) word words plain) mark
    (unfold_first h (of_step needed) word words reason are.0.plain e none)))

-- ---- a step

-- these are places of a step, and what its words say has the reason of one of them
record StepFinds (words : List (List ℕ)) (places : List Expected) (said : Result StepOf ℕ) : Type 0 where
  needed : List Expected
  are : AllNeedWords needed
  same : of_step needed ≡ places
  given : PlacesGive 0 said (of_step needed) words

-- what a table says of a step's name, and what the name and the words behind it say
abbrev Finds : List (List ℕ) → Option (List Expected) → Result StepOf ℕ → Type 0
Finds words None said = said ≡ Err unknown_word
Finds words (Some places) said = StepFinds words places said

compute_finds : (compute : ℕ → StepOf) (words : List (List ℕ)) → Finds words (Some (Number 0 (2 ^ 64 - 1) ∷ End ∷ [])) (compute_read compute words)
compute_finds compute words =
    record {
      needed = Number 0 (2 ^ 64 - 1) ∷ [];
      are = (number_needed 0 (2 ^ 64 - 1), tt);
      same = refl;
      given = made 0 (number_at 0 (2 ^ 64 - 1) words 0 & ends_at words 1) (λ x. compute x.0) _ words
          (both 0 (number_at 0 (2 ^ 64 - 1) words 0) (ends_at words 1) _ _ words refl (number_gives 0 (2 ^ 64 - 1) 0 words)
          (last 1 (ends_at words 1) End words refl (end_gives 1 words)));
    }

post_finds : (post : ℕ → ℕ → ℕ → StepOf) (of : Thing) (words : List (List ℕ))
    → Finds words (Some (Id things.Task ∷ Id of ∷ Number 0 MOST_MICROSECONDS ∷ End ∷ [])) (post_read post words)
post_finds post of words =
    record {
      needed = Id things.Task ∷ Id of ∷ Number 0 MOST_MICROSECONDS ∷ [];
      are = (id_needed things.Task, (id_needed of, (number_needed 0 MOST_MICROSECONDS, tt)));
      same = refl;
      given = made 0 (id_at words 0 & id_at words 1 & time_at words 2 & ends_at words 3) (λ x. post x.0 x.1.0 x.1.1.0) _ words
          (both 0 (id_at words 0) (id_at words 1 & time_at words 2 & ends_at words 3) _ _ words refl (id_gives things.Task 0 words)
          (both 1 (id_at words 1) (time_at words 2 & ends_at words 3) _ _ words refl (id_gives of 1 words)
          (both 2 (time_at words 2) (ends_at words 3) _ _ words refl (time_gives 2 words)
          (last 3 (ends_at words 3) End words refl (end_gives 3 words)))));
    }

block_finds : (words : List (List ℕ)) → Finds words (Some (Scope ∷ End ∷ [])) (block_read words)
block_finds words =
    record {
      needed = Scope ∷ [];
      are = (scope_needed, tt);
      same = refl;
      given = made 0 (name_at scope_named words 0 & ends_at words 1) (λ x. steps.Block x.0) _ words
          (both 0 (name_at scope_named words 0) (ends_at words 1) _ _ words refl (scope_gives 0 words)
          (last 1 (ends_at words 1) End words refl (end_gives 1 words)));
    }

unblock_finds : (words : List (List ℕ)) → Finds words (Some (End ∷ [])) (ends_at words 0 >> Ok steps.Unblock)
unblock_finds words =
    record {
      needed = [];
      are = tt;
      same = refl;
      given = then_made 0 (ends_at words 0) steps.Unblock _ words (last 0 (ends_at words 0) End words refl (end_gives 0 words));
    }

either_finds : (words : List (List ℕ)) (b : Bool) (table other : Option (List Expected)) (said otherwise : Result StepOf ℕ) → Finds words table said
    → Finds words other otherwise → Finds words (cond b table other) (cond b said otherwise)
either_finds words true table other said otherwise p q = p
either_finds words false table other said otherwise p q = q

step_finds : (name : List ℕ) (words : List (List ℕ)) → Finds words (script_steps name) (step_said name words)
unfolding script_steps step_said
step_finds name words =
    either_finds words (is_word name (codes "add")) _ _ _ _ (compute_finds steps.Add words)
    (either_finds words (is_word name (codes "mul")) _ _ _ _ (compute_finds steps.Mul words)
    (either_finds words (is_word name (codes "set")) _ _ _ _ (compute_finds steps.Set words)
    (either_finds words (is_word name (codes "post")) _ _ _ _ (post_finds steps.Post things.Runner words)
    (either_finds words (is_word name (codes "main")) _ _ _ _ (post_finds steps.Main things.Queue words)
    (either_finds words (is_word name (codes "block")) _ _ _ _ (block_finds words)
    (either_finds words (is_word name (codes "unblock")) _ _ _ _ (unblock_finds words) refl))))))

-- a place where a step begins
record BeginsStep (h : Expected) : Type 0 where
  fault : (word : List ℕ) → fault_of Script h word ≡ choice_fault (is_some (script_steps word))
  behind : (word : List ℕ) → behind_word Script h [] word ≡ unwrap_or (script_steps word) []
  takes : takes_word h ≡ true

begins : BeginsStep Step
begins = record { fault = λ word. refl; behind = λ word. refl; takes = refl }

begins_steps : BeginsStep Steps
begins_steps = record { fault = λ word. refl; behind = λ word. refl; takes = refl }

-- a step is missing, behind `;` or before it
abbrev IsMissing : Expected → List (List ℕ) → Type 0
IsMissing h [] = is_required h ≡ true
IsMissing h (word ∷ words) = Unit {0}

empty_found : (h : Expected) (behind : List (List ℕ)) (reason place : ℕ) → BeginsStep h → IsBehind behind → IsMissing h behind
    → step_read [] ≡ Err reason → is_some (first_of_steps Script (Some reason) (h ∷ []) behind place) ≡ true
unfolding first_of_steps
empty_found h [] reason place head mark required e =
    let same : word_count ≡ reason = cc in
    let sought : eqb word_count reason ≡ true = rw (← same) refl in
    missing_found (is_required h) reason place h required sought
empty_found h (word ∷ words) reason place head mark required e =
    let same : word_count ≡ reason = cc in
    let sought : eqb word_count reason ≡ true = rw (← same) refl in
    by_mark (is_mark word) mark (missing (Some reason) (takes_word h) place h) (missing_found (takes_word h) reason place h head.takes sought)
  where
    by_mark : (b : Bool) → b ≡ true → (o : Option Found) → is_some o ≡ true
        → is_some (go_on reason words place (cond b (turn_by (Step ∷ []) o) (turn_at_word Script (Some reason) (h ∷ []) word place))) ≡ true
    by_mark true is None e = absurd cc
    by_mark true is (Some at) e = refl
    by_mark false is o e = absurd cc

-- the reason of a step has its place among its words
step_found : (h : Expected) (piece behind : List (List ℕ)) (reason place : ℕ) → BeginsStep h → NoMark piece → IsBehind behind → IsMissing h (piece ++ behind)
    → step_read piece ≡ Err reason → is_some (first_of_steps Script (Some reason) (h ∷ []) (piece ++ behind) place) ≡ true
step_found h [] behind reason place head plain mark required e = empty_found h behind reason place head mark required e
step_found h (name ∷ words) behind reason place head plain mark required e =
    at_word h [] name (words ++ behind) reason place (All-head (λ w. is_mark w ≡ false) name words plain)
    (λ none. subst (λ next. is_some (first_of_steps Script (Some reason) next (words ++ behind) (suc place)) ≡ true) (sym (head.behind name))
    (by_table (script_steps name) (step_finds name words)
    (subst (λ fault. is_reason reason fault ≡ false) (head.fault name) none)))
  where
    by_table : (table : Option (List Expected)) → Finds words table (step_said name words)
        → is_reason reason (choice_fault (is_some table)) ≡ false
        → is_some (first_of_steps Script (Some reason) (unwrap_or table []) (words ++ behind) (suc place)) ≡ true
    by_table None unknown none =
        let same : ◌≡◌ {A = Result StepOf ℕ} (Err unknown_word) (Err reason) = sym unknown ∙ e in
        let at : unknown_word ≡ reason = cc in
        let yes : eqb unknown_word reason ≡ true = rw (← at) refl in
        absurd cc
    by_table (Some places) finds none =
        subst (λ next. is_some (first_of_steps Script (Some reason) next (words ++ behind) (suc place)) ≡ true) finds.same
        (places_found finds.needed words behind reason (suc place) finds.are (All-tail (λ w. is_mark w ≡ false) name words plain) mark
        (finds.given.give reason e))

-- ---- steps

-- behind a `;` a step begins, whatever was expected before it
after_mark : (expected : List Expected) (words : List (List ℕ)) (mark : List ℕ) (behind : List (List ℕ)) (reason place : ℕ) → is_mark mark ≡ true
    → ((at : ℕ) → is_some (first_of_steps Script (Some reason) (Step ∷ []) behind at) ≡ true)
    → is_some (first_of_steps Script (Some reason) expected (words ++ mark ∷ behind) place) ≡ true
unfolding first_of_steps
after_mark [] [] mark behind reason place is others = by_mark (is_mark mark) is
  where
    by_mark : (b : Bool) → b ≡ true
        → is_some (go_on reason behind place (cond b (Ok (Step ∷ [])) (turn_at_word Script (Some reason) [] mark place))) ≡ true
    by_mark true is = others (suc place)
    by_mark false is = absurd cc
after_mark (h ∷ rest) [] mark behind reason place is others = by_mark (is_mark mark) is (missing (Some reason) (takes_word h) place h)
  where
    by_mark : (b : Bool) → b ≡ true → (o : Option Found)
        → is_some (go_on reason behind place (cond b (turn_by (Step ∷ []) o) (turn_at_word Script (Some reason) (h ∷ rest) mark place))) ≡ true
    by_mark true is None = others (suc place)
    by_mark true is (Some at) = refl
    by_mark false is o = absurd cc
after_mark expected (word ∷ words) mark behind reason place is others =
    by_turn (turn Script (Some reason) expected word place) (λ next. after_mark next words mark behind reason (suc place) is others)
  where
    by_turn : (t : Result (List Expected) Found)
        → ((next : List Expected) → is_some (first_of_steps Script (Some reason) next (words ++ mark ∷ behind) (suc place)) ≡ true)
        → is_some (go_on reason (words ++ mark ∷ behind) place t) ≡ true
    by_turn (Ok next) go = go next
    by_turn (Err at) go = refl

-- the reason of all steps is that of the first, or of one behind it
all_err : {A : Type 0} (r : Result A ℕ) (rest : List (Result A ℕ)) (reason : ℕ) (x y : Bool) → (r ≡ Err reason → x ≡ true)
    → (all_read rest ≡ Err reason → y ≡ true) → all_read (r ∷ rest) ≡ Err reason → (x || y) ≡ true
all_err {A = A} r rest reason x y p q e = one_gives r (all_read rest) reason x y p q (unmade (r & all_read rest) e)
  where
    unmade : (s : Result (A × List A) ℕ) → (s >>= λ z. Ok (z.0 ∷ z.1)) ≡ Err reason → s ≡ Err reason
    unmade (Ok z) e = absurd cc
    unmade (Err t) e = let same : t ≡ reason = cc in ap Err same

same_or : (b : Bool) → (b || b) ≡ true → b ≡ true
same_or true e = refl
same_or false e = e

only_first : (b : Bool) → (b || false) ≡ true → b ≡ true
only_first true e = refl
only_first false e = e

steps_found : (words piece : List (List ℕ)) (h : Expected) (reason place : ℕ) → BeginsStep h → NoMark piece → IsMissing h (piece ++ words)
    → all_read (map step_read (slice_split is_mark (piece ++ words))) ≡ Err reason
    → is_some (first_of_steps Script (Some reason) (h ∷ []) (piece ++ words) place) ≡ true
steps_found [] piece h reason place head plain required e =
    let one : slice_split is_mark (piece ++ []) ≡ piece ∷ [] = rw (append-nil piece) (slice_split_none is_mark piece plain) in
    only_first (is_some (first_of_steps Script (Some reason) (h ∷ []) (piece ++ []) place))
    (all_err (step_read piece) [] reason (is_some (first_of_steps Script (Some reason) (h ∷ []) (piece ++ []) place)) false
    (step_found h piece [] reason place head plain tt required) (λ f. absurd cc) (subst (λ l. all_read (map step_read l) ≡ Err reason) one e))
steps_found (word ∷ words) piece h reason place head plain required e =
    by_mark (is_mark word) refl
    (λ at. steps_found words [] Step reason at begins (λ k d lt. absurd (omega arith)) (needed words))
    (λ is. steps_found words (piece ++ word ∷ []) h reason place head (All-push (λ w. is_mark w ≡ false) piece word plain is))
  where
    needed : (words : List (List ℕ)) → IsMissing Step words
    needed [] = refl
    needed (w ∷ ws) = tt

    Found_all : Type 0
    Found_all = is_some (first_of_steps Script (Some reason) (h ∷ []) (piece ++ word ∷ words) place) ≡ true

    by_mark : (b : Bool) → is_mark word ≡ b
        → ((at : ℕ) → all_read (map step_read (slice_split is_mark words)) ≡ Err reason
        → is_some (first_of_steps Script (Some reason) (Step ∷ []) words at) ≡ true)
        → (is_mark word ≡ false → IsMissing h ((piece ++ word ∷ []) ++ words)
        → all_read (map step_read (slice_split is_mark ((piece ++ word ∷ []) ++ words))) ≡ Err reason
        → is_some (first_of_steps Script (Some reason) (h ∷ []) ((piece ++ word ∷ []) ++ words) place) ≡ true)
        → Found_all
    by_mark true is behind longer =
        let cut : slice_split is_mark (piece ++ word ∷ words) ≡ piece ∷ slice_split is_mark words = slice_split_at is_mark piece word words plain is in
        let all : Bool = is_some (first_of_steps Script (Some reason) (h ∷ []) (piece ++ word ∷ words) place) in
        same_or all
        (all_err (step_read piece) (map step_read (slice_split is_mark words)) reason all all
        (step_found h piece (word ∷ words) reason place head plain is required)
        (λ f. after_mark (h ∷ []) piece word words reason place is (λ at. behind at f))
        (subst (λ l. all_read (map step_read l) ≡ Err reason) cut e))
    by_mark false is behind longer =
        let same : (piece ++ word ∷ []) ++ words ≡ piece ++ word ∷ words = append_assoc piece (word ∷ []) words in
        subst (λ l. is_some (first_of_steps Script (Some reason) (h ∷ []) l place) ≡ true) same
        (longer is (subst (λ l. IsMissing h l) (sym same) required)
        (subst (λ l. all_read (map step_read (slice_split is_mark l)) ≡ Err reason) (sym same) e))

-- the reason of the steps of a line has its place among them
pub steps_read-found : (words : List (List ℕ)) (reason place : ℕ) → is_reason reason (result_err (steps_read words)) ≡ true
    → is_some (first_of_steps Script (Some reason) (Steps ∷ []) words place) ≡ true
unfolding steps_read
steps_read-found [] reason place e = absurd cc
steps_read-found (word ∷ words) reason place e =
    steps_found (word ∷ words) [] Steps reason place begins_steps (λ k d lt. absurd (omega arith)) tt
    (as_err (all_read (map step_read (slice_split is_mark (word ∷ words)))) e)
  where
    as_err : (r : Result (List StepOf) ℕ) → is_reason reason (result_err r) ≡ true → r ≡ Err reason
    as_err (Ok steps) e = absurd cc
    as_err (Err s) e = ap Err (eqb-true s reason e)
