-- What turns make.
-- Cited by `Draws`, `Made`, `schedules.rt`.
use Rattle.std.proofs.Common.{◌≡◌, ℕ, ◌≤◌, Bool, true, false, cond, leb, List, [], ◌∷◌, ◌++◌, refl, sym, ap, subst, ◌∙◌, append_assoc, append-nil, Option, Some, None, arith}
use Rattle.std.specs.Prelude.{option_and_then}
use Rattle.std.specs.Option.{option_map_or}
use Rattle.std.proofs.lemmas.Bool.{and_parts, leb-true}
use Rattle.std.proofs.lemmas.Option.{same_Some}
use Rattle.task_base.specs.Plan.{Plan}
use Rattle.task_base.specs.declared.limits.TheConstants.{LAST_MOMENT}
use Rattle.task_base.specs.declared.entry.Entry.{Entry}
use Rattle.task_base.specs.declared.entry.Kind.{Kind}
use Rattle.task_base.specs.declared.entry.Kind.TheVariants as kinds
use Rattle.task_model.specs.Time.{now_of}
use Rattle.hist_model.specs.Allowed.{is_allowed, may_come, IsAllowed}
use Rattle.hist_model.specs.Legal.{IsLegal}
use Rattle.hist_model.specs.Moments.{moment_behind}
use Rattle.hist_model.specs.Open.{IsClosed}
use Rattle.hist_model.specs.Laws.Ways.{but_moment, is_due, way_on}
use Rattle.hist_model.proofs.Laws.Due.{allowed_exactly}
use Rattle.hist_model.proofs.Laws.Legal.{each_is_allowed, front_is_legal, legal_next, nothing_is_legal}
use Rattle.hist_model.proofs.Laws.Ways.{way_is}
use Rattle.simulation.specs.Schedule.{Turn, by_turns, if_allowed, made_by, reading_of, timed, turns_of}

-- ---- what is made is allowed

allowed_then : (script : Plan) (past : List Entry) (e made : Entry) → if_allowed script past e ≡ Some made → IsAllowed script past made
allowed_then script past e made is = by_test (is_allowed script past e) refl is
  where
    by_test : (b : Bool) → is_allowed script past e ≡ b → cond b (Some e) None ≡ Some made → IsAllowed script past made
    by_test true allowed same = subst (IsAllowed script past) (same_Some e made same) allowed
    by_test false barred same = absurd cc

pub made_is_allowed : (script : Plan) (past : List Entry) (reading seat : ℕ) (e : Entry) → made_by script past reading seat ≡ Some e → IsAllowed script past e
unfolding made_by
made_is_allowed script past reading seat e is = by_way (way_on script past seat) is
  where
    by_way : (way : Option Kind) → option_and_then (λ kind. if_allowed script past (timed past reading seat kind)) way ≡ Some e → IsAllowed script past e
    by_way None same = absurd cc
    by_way (Some kind) same = allowed_then script past (timed past reading seat kind) e same

legal_from : (script : Plan) (past : List Entry) (turns : List Turn) → IsLegal script past → IsLegal script (by_turns script past turns)
legal_from script past [] legal = legal
legal_from script past (turn ∷ rest) legal = by_made (made_by script past turn.reading turn.seat) refl (legal_from script past rest legal)
    (λ e allowed. legal_from script (past ++ e ∷ []) rest (legal_next script past e legal allowed))
  where
    by_made : (made : Option Entry) → made_by script past turn.reading turn.seat ≡ made → IsLegal script (by_turns script past rest)
        → ((e : Entry) → IsAllowed script past e → IsLegal script (by_turns script (past ++ e ∷ []) rest))
        → IsLegal script (option_map_or (λ e. by_turns script (past ++ e ∷ []) rest) made (by_turns script past rest))
    by_made None is over on = over
    by_made (Some e) is over on = on e (made_is_allowed script past turn.reading turn.seat e is)

pub made_is_legal : (script : Plan) (turns : List Turn) → IsLegal script (by_turns script [] turns)
made_is_legal script turns = legal_from script [] turns (nothing_is_legal script)

-- ---- what is allowed is made

-- a reading from the moment before to the last one of all is its own moment
own_moment : (before now : ℕ) → before ≤ now → now ≤ LAST_MOMENT → moment_behind before now ≡ now
own_moment before now from to = grind arith

-- the way on, with a reading that gives the entry its moment, is the entry
pub timed_is : (past : List Entry) (reading seat : ℕ) (kind : Kind) → ((now : ℕ) → kind ≡ kinds.Tick now → moment_behind (now_of past) reading ≡ now)
    → timed past reading seat (but_moment kind) ≡ record { seat = seat; kind = kind }
timed_is past reading seat (kinds.Tick now) reads = ap (λ m. record { seat = seat; kind = kinds.Tick m }) (reads now refl)
timed_is past reading seat kind reads = refl

-- an entry that is allowed is what its seat makes with such a reading
pub allowed_is_made : (script : Plan) (past : List Entry) (reading seat : ℕ) (kind : Kind) → IsClosed script → IsLegal script past
    → IsAllowed script past (record { seat = seat; kind = kind }) → ((now : ℕ) → kind ≡ kinds.Tick now → moment_behind (now_of past) reading ≡ now)
    → made_by script past reading seat ≡ Some (record { seat = seat; kind = kind })
unfolding made_by
allowed_is_made script past reading seat kind closed legal allowed reads =
    let may = (and_parts (leb seat script.workers) (may_come script past seat kind) allowed).1 in
    ap (option_and_then (λ k. if_allowed script past (timed past reading seat k))) (way_is script past seat kind closed legal may)
    ∙ ap (if_allowed script past) (timed_is past reading seat kind reads)
    ∙ ap (λ b. cond b (Some (record { seat = seat; kind = kind })) None) allowed

-- the moment of a tick that is allowed
moment_is : (script : Plan) (past : List Entry) (e : Entry) → IsClosed script → IsLegal script past → IsAllowed script past e
    → (now : ℕ) → e.kind ≡ kinds.Tick now → moment_behind (now_of past) (reading_of e.kind) ≡ now
moment_is script past e closed legal allowed now is =
    let parts = and_parts (leb e.seat script.workers) (may_come script past e.seat e.kind) allowed in
    let due = ((allowed_exactly script past e.seat e.kind closed legal (leb-true e.seat script.workers parts.0)).0 parts.1).1 in
    let within = and_parts (leb (now_of past) now) (leb now LAST_MOMENT) (sym (ap (is_due script past) is) ∙ due) in
    ap (λ k. moment_behind (now_of past) (reading_of k)) is
    ∙ own_moment (now_of past) now (leb-true (now_of past) now within.0) (leb-true now LAST_MOMENT within.1)

made_from : (script : Plan) (past rest : List Entry) → IsClosed script → IsLegal script (past ++ rest) → by_turns script past (turns_of rest) ≡ past ++ rest
made_from script past [] closed legal = sym (append-nil past)
made_from script past (e ∷ rest) closed legal =
    let before = front_is_legal script past (e ∷ rest) legal in
    let allowed = each_is_allowed script past e rest legal in
    let made = allowed_is_made script past (reading_of e.kind) e.seat e.kind closed before allowed (moment_is script past e closed before allowed) in
    let joined = append_assoc past (e ∷ []) rest in
    ap (λ m. option_map_or (λ x. by_turns script (past ++ x ∷ []) (turns_of rest)) m (by_turns script past (turns_of rest))) made
    ∙ made_from script (past ++ e ∷ []) rest closed (subst (IsLegal script) (sym joined) legal) ∙ joined

pub turns_make_it : (script : Plan) (log : List Entry) → IsClosed script → IsLegal script log → by_turns script [] (turns_of log) ≡ log
turns_make_it script log closed legal = made_from script [] log closed legal
