-- A reason that the words of a line give has its place.
-- Cited by `EachLine`.
use Rattle.std.proofs.Common.{◌≡◌, ℕ, suc, ◌<◌, ◌≤◌, arith, Bool, true, false, cond, eqb, ltb, leb, List, [], ◌∷◌, drop, refl, sym, ap}
use Rattle.std.proofs.Common.{subst, ◌∙◌, Option, Some, None, Result, Ok, Err}
use Rattle.std.specs.Prelude.{◌||◌, ◌&&◌, is_some, slice_get, codes}
use Rattle.std.specs.Option.{option_or, option_and_then}
use Rattle.std.specs.Result.{result_err, result_unwrap_or}
use Rattle.std.proofs.lemmas.Bool.{leb-true, ltb-true, or_left, or_right}
use Rattle.task_base.specs.declared.script.Action.{Action}
use Rattle.task_base.specs.declared.script.Action.TheVariants as actions
use Rattle.task_base.specs.declared.limits.TheConstants.{MOST_WORKERS, MOST_MICROSECONDS}
use Rattle.value_words.specs.Words.{priority_named, behaviour_named, policy_named, fence_named, vote_named}
use Rattle.script_model.specs.Words.{is_word, number_of}
use Rattle.script_model.specs.Reasons.{◌>>=◌, ◌>>◌, ◌&◌, refuse, unknown_word, word_count, out_of_range}
use Rattle.script_model.specs.Places.{in_range, number_from, said_at, name_at, ends_at, number_at, id_at, time_at, kind_named, may_block_at, steps_read}
use Rattle.script_model.proofs.Laws.Faults.{ok_same}
use Rattle.script_model.proofs.Laws.Parts.{both_ok}
use Rattle.script_lines.specs.declared.command.Command.{Command}
use Rattle.script_lines.specs.declared.command.Command.TheVariants as commands
use Rattle.script_lines.specs.Said.{workers_said, groups_said, threshold_said, runner_said, queue_said, task_said, job_said, post_said}
use Rattle.script_lines.specs.Said.{main_said, policy_said, reprio_said, fence_said, vote_said, rank_said, number_said, id_said, bare_said}
use Rattle.script_lines.specs.Said.{queue_command_said, action_command_said, command_said}
use Rattle.line_places.specs.declared.expected.Language.TheVariants.{Script}
use Rattle.line_places.specs.declared.expected.Thing.{Thing}
use Rattle.line_places.specs.declared.expected.Thing.TheVariants.{Runner, Queue, Task, Job}
use Rattle.line_places.specs.declared.expected.Expected.{Expected}
use Rattle.line_places.specs.declared.expected.Expected.TheVariants.{Command as CommandPlace, Steps, Number, Id, Kind, Priority, Behaviour}
use Rattle.line_places.specs.declared.expected.Expected.TheVariants.{MayBlock, Policy, Fence, Vote, End}
use Rattle.line_places.specs.declared.expected.Found.{Found}
use Rattle.line_places.specs.Tables.{script_places, script_acts, script_acts_on}
use Rattle.line_places.specs.Faults.{choice_fault}
use Rattle.line_places.specs.First.{sought_by, found_at, is_steps, at_place, first_of_steps, first_at}
use Rattle.lint_laws.specs.Told.{is_reason, word_fault}
use Rattle.lint_laws.proofs.GivenPlaces.{place_fault, other_reason, gives, PlacesGive, get-drop, both, last, steps_last, made, then_made, number_gives}
use Rattle.lint_laws.proofs.GivenPlaces.{id_gives, time_gives, kind_gives}
use Rattle.lint_laws.proofs.GivenPlaces.{priority_gives, behaviour_gives, policy_gives, fence_gives, vote_gives, may_block_gives, end_gives}
use Rattle.lint_laws.proofs.WordedSteps.{steps_read-found}

-- ---- a given reason is found

place_is : (reason place : ℕ) (expected : Expected) (word : Option (List ℕ))
    → at_place Script (Some reason) expected word place ≡ found_at (sought_by (Some reason) (place_fault expected word)) place expected
place_is reason place expected None = refl
place_is reason place expected (Some word) = refl

-- the reason of a place is found there, or before it
gives_found : (places : List Expected) (words : List (List ℕ)) (reason place : ℕ) → gives reason places words ≡ true
    → is_some (first_at Script (Some reason) places words place) ≡ true
unfolding first_at
gives_found [] words reason place e = absurd cc
gives_found (expected ∷ rest) words reason place e =
    by_steps (is_steps expected) (steps_read-found words reason place) e
    (at_place Script (Some reason) expected (slice_get words 0) place)
    (λ none. other_reason reason place expected (place_fault expected (slice_get words 0)) (sym (place_is reason place expected (slice_get words 0)) ∙ none))
    (gives_found rest (drop 1 words) reason (suc place))
  where
    behind : Option Found
    behind = first_at Script (Some reason) rest (drop 1 words) (suc place)

    by_steps : (p : Bool)
        → (is_reason reason (result_err (steps_read words)) ≡ true → is_some (first_of_steps Script (Some reason) (Steps ∷ []) words place) ≡ true)
        → cond p (is_reason reason (result_err (steps_read words)))
        (is_reason reason (place_fault expected (slice_get words 0)) || gives reason rest (drop 1 words)) ≡ true
        → (o : Option Found) → (o ≡ None → is_reason reason (place_fault expected (slice_get words 0)) ≡ false)
        → (gives reason rest (drop 1 words) ≡ true → is_some behind ≡ true)
        → is_some (cond p (first_of_steps Script (Some reason) (Steps ∷ []) words place) (option_or o behind)) ≡ true
    by_steps true steps e o other rest_found = steps e
    by_steps false steps e (Some at) other rest_found = refl
    by_steps false steps e None other rest_found =
        rest_found (let at : (false || gives reason rest (drop 1 words)) ≡ true = subst (λ b. (b || gives reason rest (drop 1 words)) ≡ true) (other refl) e in at)

-- ---- the table of commands

-- the first place, by the places that the table has for the command
abbrev by_table : List ℕ → List (List ℕ) → ℕ → Option (List Expected) → Option Found
by_table name words reason table = elim table as (λ _. Option Found) [
  | None ↦ at_place Script (Some reason) CommandPlace (Some name) 1
  | Some places ↦ first_at Script (Some reason) places words 2
]

-- the one reason of words that no place alone gives, by the command and the words behind it
abbrev pub is_of_groups : List ℕ → List (List ℕ) → ℕ → Bool
is_of_groups name words reason =
    eqb reason out_of_range && (is_word name (codes "groups")
    && is_reason reason (word_fault (Number 1 (result_unwrap_or (number_at 1 64 words 0) 64)) (slice_get (drop 1 words) 0)))

-- the reason of what a line says has its place among these
pub record LineFinds (name : List ℕ) (words : List (List ℕ)) (table : Option (List Expected)) (said : Result Command ℕ) : Type 0 where
  pub find : (reason : ℕ) → said ≡ Err reason → (is_some (by_table name words reason table) || is_of_groups name words reason) ≡ true

plain : (name : List ℕ) (words : List (List ℕ)) (places : List Expected) (said : Result Command ℕ) → PlacesGive 0 said places words
    → LineFinds name words (Some places) said
plain name words places said given = record {
  find = λ reason e. or_left (is_some (first_at Script (Some reason) places words 2)) (is_of_groups name words reason)
      (gives_found places words reason 2 (given.give reason e));
}

-- a command, or one of those behind it in the table
chain : (whole : Option (List Expected)) (name : List ℕ) (words : List (List ℕ)) (b : Bool) (places : List Expected) (other : Option (List Expected))
    (said otherwise : Result Command ℕ) → whole ≡ cond b (Some places) other → (b ≡ true → LineFinds name words (Some places) said)
    → (whole ≡ other → LineFinds name words other otherwise) → LineFinds name words (cond b (Some places) other) (cond b said otherwise)
chain whole name words true places other said otherwise is here behind = here refl
chain whole name words false places other said otherwise is here behind = behind is

-- no command
unknown : (name : List ℕ) (words : List (List ℕ)) → script_places name ≡ None → LineFinds name words None (Err unknown_word)
unknown name words none = record { find = λ reason e. by_choice reason e (script_places name) none }
  where
    by_choice : (reason : ℕ) → ◌≡◌ {A = Result Command ℕ} (Err unknown_word) (Err reason) → (table : Option (List Expected)) → table ≡ None
        → (is_some (found_at (sought_by (Some reason) (choice_fault (is_some table))) 1 CommandPlace) || is_of_groups name words reason) ≡ true
    by_choice reason e None is = let same : unknown_word ≡ reason = cc in rw (← same) refl
    by_choice reason e (Some places) is = absurd cc

-- ---- each line

number_line : (act : ℕ → Action) (low high : ℕ) (words : List (List ℕ)) → PlacesGive 0 (number_said act low high words) (Number low high ∷ End ∷ []) words
number_line act low high words =
    made 0 (number_at low high words 0 & ends_at words 1) (λ x. commands.Act (act x.0)) _ words
    (both 0 (number_at low high words 0) (ends_at words 1) _ _ words refl (number_gives low high 0 words)
    (last 1 (ends_at words 1) End words refl (end_gives 1 words)))

id_line : (act : ℕ → Action) (of : Thing) (words : List (List ℕ)) → PlacesGive 0 (id_said act words) (Id of ∷ End ∷ []) words
id_line act of words =
    made 0 (id_at words 0 & ends_at words 1) (λ x. commands.Act (act x.0)) _ words
    (both 0 (id_at words 0) (ends_at words 1) _ _ words refl (id_gives of 0 words)
    (last 1 (ends_at words 1) End words refl (end_gives 1 words)))

bare_line : (act : Action) (words : List (List ℕ)) → PlacesGive 0 (bare_said act words) (End ∷ []) words
bare_line act words = then_made 0 (ends_at words 0) (commands.Act act) _ words (last 0 (ends_at words 0) End words refl (end_gives 0 words))

workers : (words : List (List ℕ)) → PlacesGive 0 (workers_said words) (Number 1 MOST_WORKERS ∷ End ∷ []) words
unfolding workers_said
workers words =
    made 0 (number_at 1 MOST_WORKERS words 0 & ends_at words 1) (λ x. commands.Workers x.0) _ words
    (both 0 (number_at 1 MOST_WORKERS words 0) (ends_at words 1) _ _ words refl (number_gives 1 MOST_WORKERS 0 words)
    (last 1 (ends_at words 1) End words refl (end_gives 1 words)))

threshold : (words : List (List ℕ)) → PlacesGive 0 (threshold_said words) (Number 0 MOST_MICROSECONDS ∷ End ∷ []) words
unfolding threshold_said
threshold words =
    made 0 (time_at words 0 & ends_at words 1) (λ x. commands.Threshold x.0) _ words
    (both 0 (time_at words 0) (ends_at words 1) _ _ words refl (time_gives 0 words)
    (last 1 (ends_at words 1) End words refl (end_gives 1 words)))

-- the places of `groups`, and then its limits together
groups_places : (words : List (List ℕ))
    → PlacesGive 0 (number_at 1 64 words 0 & number_at 1 64 words 1 & number_at 0 64 words 2 & ends_at words 3)
    (Number 1 64 ∷ Number 1 64 ∷ Number 0 64 ∷ End ∷ []) words
groups_places words =
    both 0 (number_at 1 64 words 0) (number_at 1 64 words 1 & number_at 0 64 words 2 & ends_at words 3) _ _ words refl (number_gives 1 64 0 words)
    (both 1 (number_at 1 64 words 1) (number_at 0 64 words 2 & ends_at words 3) _ _ words refl (number_gives 1 64 1 words)
    (both 2 (number_at 0 64 words 2) (ends_at words 3) _ _ words refl (number_gives 0 64 2 words)
    (last 3 (ends_at words 3) End words refl (end_gives 3 words))))

-- a number that may stand at a place, but is above a limit there
above_limit : (words : List (List ℕ)) (k low high limit n : ℕ) → number_at low high words k ≡ Ok n → ltb limit n ≡ true
    → word_fault (Number low limit) (slice_get words k) ≡ Some out_of_range
unfolding number_from
above_limit words k low high limit n said above = by_word (slice_get words k) said
  where
    by_range : (o : Option ℕ) → in_range low high o ≡ Ok n → result_err (in_range low limit o) ≡ Some out_of_range
    by_range None e = absurd cc
    by_range (Some m) e = by_tests (leb low m && leb m high) (leb low m) (leb m limit) refl e
      where
        by_tests : (within a b : Bool) → leb m limit ≡ b → ◌≡◌ {A = Result ℕ ℕ} (cond within (Ok m) (Err out_of_range)) (Ok n)
            → result_err (cond (a && b) (Ok m) (Err out_of_range)) ≡ Some out_of_range
        by_tests false a b is e = absurd cc
        by_tests true false b is e = refl
        by_tests true true false is e = refl
        by_tests true true true is e =
            let same : m ≡ n = ok_same {E = ℕ} m n e in
            let most : m ≤ limit = leb-true m limit is in
            let least : limit < n = ltb-true limit n above in
            absurd (omega (arith, same, most, least))

    by_word : (o : Option (List ℕ)) → (elim o as (λ _. Result ℕ ℕ) [ None ↦ Err word_count | Some word ↦ in_range low high (number_of word) ]) ≡ Ok n
        → option_and_then (λ word. result_err (in_range low limit (number_of word))) o ≡ Some out_of_range
    by_word None e = absurd cc
    by_word (Some word) e = by_range (number_of word) e

groups : (name : List ℕ) (words : List (List ℕ)) → is_word name (codes "groups") ≡ true
    → LineFinds name words (Some (Number 1 64 ∷ Number 1 64 ∷ Number 0 64 ∷ End ∷ [])) (groups_said words)
unfolding groups_said
groups name words is = record {
  find = λ reason e. by_values reason (number_at 1 64 words 0 & number_at 1 64 words 1 & number_at 0 64 words 2 & ends_at words 3) refl e;
}
  where
    places : List Expected
    places = Number 1 64 ∷ Number 1 64 ∷ Number 0 64 ∷ End ∷ []

    Values : Type 0
    Values = ℕ × (ℕ × (ℕ × Unit {0}))

    Found_by : ℕ → Type 0
    Found_by reason = (is_some (first_at Script (Some reason) places words 2) || is_of_groups name words reason) ≡ true

    by_test : (reason : ℕ) (z : Values) → (number_at 1 64 words 0 & number_at 1 64 words 1 & number_at 0 64 words 2 & ends_at words 3) ≡ Ok z
        → (b : Bool) → ltb z.0 z.1.0 ≡ b → (refuse b out_of_range >> Ok (commands.Groups z.0 z.1.0 z.1.1.0)) ≡ Err reason → Found_by reason
    by_test reason z said true above e =
        let same : out_of_range ≡ reason = cc in
        let first = both_ok (number_at 1 64 words 0) (number_at 1 64 words 1 & number_at 0 64 words 2 & ends_at words 3) z.0 z.1 said in
        let second = both_ok (number_at 1 64 words 1) (number_at 0 64 words 2 & ends_at words 3) z.1.0 z.1.1 first.1 in
        let fault = above_limit words 1 1 64 z.0 z.1.0 second.0 above in
        let excused : is_of_groups name words out_of_range ≡ true = rw (is, first.0, get-drop 1 words, fault) refl in
        or_right (is_some (first_at Script (Some reason) places words 2)) (is_of_groups name words reason)
        (subst (λ r. is_of_groups name words r ≡ true) same excused)
    by_test reason z said false above e = absurd cc

    by_values : (reason : ℕ) (r : Result Values ℕ)
        → (number_at 1 64 words 0 & number_at 1 64 words 1 & number_at 0 64 words 2 & ends_at words 3) ≡ r
        → (r >>= λ z. refuse (ltb z.0 z.1.0) out_of_range >> Ok (commands.Groups z.0 z.1.0 z.1.1.0)) ≡ Err reason → Found_by reason
    by_values reason (Ok z) said e = by_test reason z said (ltb z.0 z.1.0) refl e
    by_values reason (Err s) said e =
        let same : s ≡ reason = cc in
        or_left (is_some (first_at Script (Some reason) places words 2)) (is_of_groups name words reason)
        (gives_found places words reason 2 ((groups_places words).give reason (said ∙ ap Err same)))

runner : (words : List (List ℕ)) → PlacesGive 0 (runner_said words) (Id Runner ∷ Kind ∷ Priority ∷ Behaviour ∷ MayBlock ∷ End ∷ []) words
unfolding runner_said
runner words =
    made 0
    (id_at words 0 & said_at kind_named words 1 & name_at priority_named words 2 & name_at behaviour_named words 3 & may_block_at words 4 & ends_at words 5)
    (λ x. commands.Runner x.0 (record { kind = x.1.0; traits = record { priority = x.1.1.0; behaviour = x.1.1.1.0; may_block = x.1.1.1.1.0 } })) _ words
    (both 0 (id_at words 0)
    (said_at kind_named words 1 & name_at priority_named words 2 & name_at behaviour_named words 3 & may_block_at words 4 & ends_at words 5) _ _ words refl
    (id_gives Runner 0 words)
    (both 1 (said_at kind_named words 1) (name_at priority_named words 2 & name_at behaviour_named words 3 & may_block_at words 4 & ends_at words 5) _ _ words
    refl (kind_gives 1 words)
    (both 2 (name_at priority_named words 2) (name_at behaviour_named words 3 & may_block_at words 4 & ends_at words 5) _ _ words refl
    (priority_gives 2 words)
    (both 3 (name_at behaviour_named words 3) (may_block_at words 4 & ends_at words 5) _ _ words refl (behaviour_gives 3 words)
    (both 4 (may_block_at words 4) (ends_at words 5) _ _ words refl (may_block_gives 4 words)
    (last 5 (ends_at words 5) End words refl (end_gives 5 words)))))))

queue : (words : List (List ℕ)) → PlacesGive 0 (queue_said words) (Id Queue ∷ Number 0 7 ∷ Number 0 16 ∷ End ∷ []) words
unfolding queue_said
queue words =
    made 0 (id_at words 0 & number_at 0 7 words 1 & number_at 0 16 words 2 & ends_at words 3)
    (λ x. commands.Queue x.0 (record { class = x.1.0; voters = x.1.1.0 })) _ words
    (both 0 (id_at words 0) (number_at 0 7 words 1 & number_at 0 16 words 2 & ends_at words 3) _ _ words refl (id_gives Queue 0 words)
    (both 1 (number_at 0 7 words 1) (number_at 0 16 words 2 & ends_at words 3) _ _ words refl (number_gives 0 7 1 words)
    (both 2 (number_at 0 16 words 2) (ends_at words 3) _ _ words refl (number_gives 0 16 2 words)
    (last 3 (ends_at words 3) End words refl (end_gives 3 words)))))

task : (words : List (List ℕ)) → PlacesGive 0 (task_said words) (Id Task ∷ Steps ∷ []) words
unfolding task_said
task words =
    made 0 (id_at words 0 & steps_read (drop 1 words)) (λ x. commands.Task x.0 x.1) _ words
    (both 0 (id_at words 0) (steps_read (drop 1 words)) _ _ words refl (id_gives Task 0 words) (steps_last 1 words))

job : (words : List (List ℕ))
    → PlacesGive 0 (job_said words) (Id Job ∷ Priority ∷ Behaviour ∷ Number 0 65536 ∷ Number 1 64 ∷ Steps ∷ []) words
unfolding job_said
job words =
    made 0
    (id_at words 0 & name_at priority_named words 1 & name_at behaviour_named words 2 & number_at 0 65536 words 3 & number_at 1 64 words 4
    & steps_read (drop 5 words))
    (λ x. commands.Job x.0 (record { priority = x.1.0; behaviour = x.1.1.0; items = x.1.1.1.0; cap = x.1.1.1.1.0; steps = x.1.1.1.1.1 })) _ words
    (both 0 (id_at words 0)
    (name_at priority_named words 1 & name_at behaviour_named words 2 & number_at 0 65536 words 3 & number_at 1 64 words 4 & steps_read (drop 5 words)) _ _
    words refl (id_gives Job 0 words)
    (both 1 (name_at priority_named words 1)
    (name_at behaviour_named words 2 & number_at 0 65536 words 3 & number_at 1 64 words 4 & steps_read (drop 5 words)) _ _ words refl (priority_gives 1 words)
    (both 2 (name_at behaviour_named words 2) (number_at 0 65536 words 3 & number_at 1 64 words 4 & steps_read (drop 5 words)) _ _ words refl
    (behaviour_gives 2 words)
    (both 3 (number_at 0 65536 words 3) (number_at 1 64 words 4 & steps_read (drop 5 words)) _ _ words refl (number_gives 0 65536 3 words)
    (both 4 (number_at 1 64 words 4) (steps_read (drop 5 words)) _ _ words refl (number_gives 1 64 4 words) (steps_last 5 words))))))

-- a post's four places
post_places : (of : Thing) (words : List (List ℕ))
    → PlacesGive 0 (id_at words 0 & id_at words 1 & time_at words 2 & ends_at words 3) (Id Task ∷ Id of ∷ Number 0 MOST_MICROSECONDS ∷ End ∷ []) words
post_places of words =
    both 0 (id_at words 0) (id_at words 1 & time_at words 2 & ends_at words 3) _ _ words refl (id_gives Task 0 words)
    (both 1 (id_at words 1) (time_at words 2 & ends_at words 3) _ _ words refl (id_gives of 1 words)
    (both 2 (time_at words 2) (ends_at words 3) _ _ words refl (time_gives 2 words)
    (last 3 (ends_at words 3) End words refl (end_gives 3 words))))

post : (words : List (List ℕ)) → PlacesGive 0 (post_said words) (Id Task ∷ Id Runner ∷ Number 0 MOST_MICROSECONDS ∷ End ∷ []) words
unfolding post_said
post words =
    made 0 (id_at words 0 & id_at words 1 & time_at words 2 & ends_at words 3) (λ x. commands.Act (actions.Post x.0 x.1.0 x.1.1.0)) _ words
    (post_places Runner words)

main : (words : List (List ℕ)) → PlacesGive 0 (main_said words) (Id Task ∷ Id Queue ∷ Number 0 MOST_MICROSECONDS ∷ End ∷ []) words
unfolding main_said
main words =
    made 0 (id_at words 0 & id_at words 1 & time_at words 2 & ends_at words 3) (λ x. commands.Act (actions.Main x.0 x.1.0 x.1.1.0)) _ words
    (post_places Queue words)

policy : (words : List (List ℕ)) → PlacesGive 0 (policy_said words) (Policy ∷ End ∷ []) words
unfolding policy_said
policy words =
    made 0 (name_at policy_named words 0 & ends_at words 1) (λ x. commands.Act (actions.Policy x.0)) _ words
    (both 0 (name_at policy_named words 0) (ends_at words 1) _ _ words refl (policy_gives 0 words)
    (last 1 (ends_at words 1) End words refl (end_gives 1 words)))

reprio : (words : List (List ℕ)) → PlacesGive 0 (reprio_said words) (Id Runner ∷ Priority ∷ End ∷ []) words
unfolding reprio_said
reprio words =
    made 0 (id_at words 0 & name_at priority_named words 1 & ends_at words 2) (λ x. commands.Act (actions.Reprio x.0 x.1.0)) _ words
    (both 0 (id_at words 0) (name_at priority_named words 1 & ends_at words 2) _ _ words refl (id_gives Runner 0 words)
    (both 1 (name_at priority_named words 1) (ends_at words 2) _ _ words refl (priority_gives 1 words)
    (last 2 (ends_at words 2) End words refl (end_gives 2 words))))

fence : (words : List (List ℕ)) → PlacesGive 0 (fence_said words) (Id Queue ∷ Fence ∷ End ∷ []) words
unfolding fence_said
fence words =
    made 0 (id_at words 0 & name_at fence_named words 1 & ends_at words 2) (λ x. commands.Act (actions.Fence x.0 x.1.0)) _ words
    (both 0 (id_at words 0) (name_at fence_named words 1 & ends_at words 2) _ _ words refl (id_gives Queue 0 words)
    (both 1 (name_at fence_named words 1) (ends_at words 2) _ _ words refl (fence_gives 1 words)
    (last 2 (ends_at words 2) End words refl (end_gives 2 words))))

vote : (words : List (List ℕ)) → PlacesGive 0 (vote_said words) (Id Queue ∷ Number 0 255 ∷ Vote ∷ End ∷ []) words
unfolding vote_said
vote words =
    made 0 (id_at words 0 & number_at 0 255 words 1 & name_at vote_named words 2 & ends_at words 3)
    (λ x. commands.Act (actions.Vote x.0 x.1.0 x.1.1.0)) _ words
    (both 0 (id_at words 0) (number_at 0 255 words 1 & name_at vote_named words 2 & ends_at words 3) _ _ words refl (id_gives Queue 0 words)
    (both 1 (number_at 0 255 words 1) (name_at vote_named words 2 & ends_at words 3) _ _ words refl (number_gives 0 255 1 words)
    (both 2 (name_at vote_named words 2) (ends_at words 3) _ _ words refl (vote_gives 2 words)
    (last 3 (ends_at words 3) End words refl (end_gives 3 words)))))

rank : (words : List (List ℕ)) → PlacesGive 0 (rank_said words) (Id Queue ∷ Number 0 7 ∷ End ∷ []) words
unfolding rank_said
rank words =
    made 0 (id_at words 0 & number_at 0 7 words 1 & ends_at words 2) (λ x. commands.Act (actions.Rank x.0 x.1.0)) _ words
    (both 0 (id_at words 0) (number_at 0 7 words 1 & ends_at words 2) _ _ words refl (id_gives Queue 0 words)
    (both 1 (number_at 0 7 words 1) (ends_at words 2) _ _ words refl (number_gives 0 7 1 words)
    (last 2 (ends_at words 2) End words refl (end_gives 2 words))))

-- ---- all commands

queue_commands : (name : List ℕ) (words : List (List ℕ)) → script_places name ≡ script_acts_on name
    → LineFinds name words (script_acts_on name) (queue_command_said name words)
unfolding script_acts_on queue_command_said
queue_commands name words is =
    chain (script_places name) name words (is_word name (codes "tick")) _ _ _ _ is (λ _. plain name words _ _ (number_line actions.Tick 1 65536 words)) (λ is.
    chain (script_places name) name words (is_word name (codes "fence")) _ _ _ _ is (λ _. plain name words _ _ (fence words)) (λ is.
    chain (script_places name) name words (is_word name (codes "unfence")) _ _ _ _ is (λ _. plain name words _ _ (id_line actions.Unfence Queue words)) (λ is.
    chain (script_places name) name words (is_word name (codes "vote")) _ _ _ _ is (λ _. plain name words _ _ (vote words)) (λ is.
    chain (script_places name) name words (is_word name (codes "rank")) _ _ _ _ is (λ _. plain name words _ _ (rank words)) (λ is.
    chain (script_places name) name words (is_word name (codes "close")) _ _ _ _ is (λ _. plain name words _ _ (id_line actions.Close Queue words)) (λ is.
    chain (script_places name) name words (is_word name (codes "pump")) _ _ _ _ is (λ _. plain name words _ _ (number_line actions.Pump 1 16384 words))
    (unknown name words)))))))

action_commands : (name : List ℕ) (words : List (List ℕ)) → script_places name ≡ script_acts name
    → LineFinds name words (script_acts name) (action_command_said name words)
unfolding script_acts action_command_said
action_commands name words is =
    chain (script_places name) name words (is_word name (codes "post")) _ _ _ _ is (λ _. plain name words _ _ (post words)) (λ is.
    chain (script_places name) name words (is_word name (codes "main")) _ _ _ _ is (λ _. plain name words _ _ (main words)) (λ is.
    chain (script_places name) name words (is_word name (codes "policy")) _ _ _ _ is (λ _. plain name words _ _ (policy words)) (λ is.
    chain (script_places name) name words (is_word name (codes "reprio")) _ _ _ _ is (λ _. plain name words _ _ (reprio words)) (λ is.
    chain (script_places name) name words (is_word name (codes "flush")) _ _ _ _ is (λ _. plain name words _ _ (bare_line actions.Flush words)) (λ is.
    chain (script_places name) name words (is_word name (codes "startjob")) _ _ _ _ is (λ _. plain name words _ _ (id_line actions.StartJob Job words)) (λ is.
    chain (script_places name) name words (is_word name (codes "join")) _ _ _ _ is (λ _. plain name words _ _ (id_line actions.Join Job words)) (λ is.
    chain (script_places name) name words (is_word name (codes "cancel")) _ _ _ _ is (λ _. plain name words _ _ (id_line actions.Cancel Job words)) (λ is.
    chain (script_places name) name words (is_word name (codes "shutdown")) _ _ _ _ is (λ _. plain name words _ _ (bare_line actions.Shutdown words))
    (queue_commands name words)))))))))

-- the reason of a command has its place, or the limits of `groups` pass one another
command_finds : (name : List ℕ) (words : List (List ℕ)) (table : Option (List Expected)) → table ≡ script_places name
    → LineFinds name words table (command_said name words)
unfolding script_places command_said
command_finds name words table is = subst (λ t. LineFinds name words t (command_said name words)) (sym is)
    (chain (script_places name) name words (is_word name (codes "workers")) _ _ _ _ refl (λ _. plain name words _ _ (workers words)) (λ is.
    chain (script_places name) name words (is_word name (codes "groups")) _ _ _ _ is (groups name words) (λ is.
    chain (script_places name) name words (is_word name (codes "threshold")) _ _ _ _ is (λ _. plain name words _ _ (threshold words)) (λ is.
    chain (script_places name) name words (is_word name (codes "runner")) _ _ _ _ is (λ _. plain name words _ _ (runner words)) (λ is.
    chain (script_places name) name words (is_word name (codes "queue")) _ _ _ _ is (λ _. plain name words _ _ (queue words)) (λ is.
    chain (script_places name) name words (is_word name (codes "task")) _ _ _ _ is (λ _. plain name words _ _ (task words)) (λ is.
    chain (script_places name) name words (is_word name (codes "job")) _ _ _ _ is (λ _. plain name words _ _ (job words))
    (action_commands name words))))))))

pub command_found : (name : List ℕ) (words : List (List ℕ)) → LineFinds name words (script_places name) (command_said name words)
command_found name words = command_finds name words (script_places name) refl
