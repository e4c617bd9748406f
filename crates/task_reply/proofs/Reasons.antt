-- The reasons that the tables give are those against the reply behind the earlier ones.
-- Cited by `Held::push`, `Standing`.
use Rattle.std.proofs.Common.{◌≡◌, ℕ, ◌+◌, ◌<◌, Bool, true, false, cond, eqb, ltb, leb, List, [], ◌∷◌, ◌++◌, length}
use Rattle.std.proofs.Common.{get_or, map, refl, sym, ap, ◌∙◌, inl, inr, Option, Some, None, arith}
use Rattle.std.specs.Prelude.{◌||◌, ◌&&◌, not}
use Rattle.std.specs.List.{list_any}
use Rattle.std.proofs.lemmas.Bool.{and_parts, cases_lt, le-ltb, le-leb, lt-leb, lt-ltb, ltb-true, not-false, or_parts, leb-false}
use Rattle.std.proofs.lemmas.List.Folds.{list_any-append}
use Rattle.task_base.specs.Plan.{Plan}
use Rattle.task_base.specs.declared.limits.TheConstants.{MOST_STEPS, MOST_EVENTS}
use Rattle.list_laws.proofs.Counts.{count-append}
use Rattle.list_laws.proofs.Places.{count_none}
use Rattle.script_model.specs.Bound.{events_bound_of, steps_of_plan}
use Rattle.script_model.specs.Draft.{opens_scope}
use Rattle.script_model.specs.Laws.Postings.{postings}
use Rattle.task_reply.specs.declared.held.Held.{Held}
use Rattle.task_reply.specs.declared.reply.Reply.{Reply}
use Rattle.task_reply.specs.Replies.{reply_undeclared, reply_posted_twice, reply_bad_block, reply_too_many, has_home, is_bad_block, is_declared_reply}
use Rattle.task_reply.specs.Replies.{is_full, is_posted, reason_against, home_takes_block}
use Rattle.task_reply.specs.Tables.{held_reason, HoldsReplies}
use Rattle.task_reply.proofs.MarkedTasks.{is_marked}
use Rattle.task_reply.proofs.StaysSound.{MayStand}

-- the tasks that replies post
abbrev pub tasks_of : List Reply → List ℕ
tasks_of replies = map (λ reply. reply.reply) replies

any_reply : (replies : List Reply) (t : ℕ) → list_any (λ u. eqb u t) (tasks_of replies) ≡ list_any (λ reply. eqb reply.reply t) replies
any_reply [] t = refl
any_reply (reply ∷ replies) t = ap (λ b. eqb reply.reply t || b) (any_reply replies t)

-- ---- the tests are the same

declared_same : (script : Plan) (replies : List Reply) (held : Held) (reply : Reply) → HoldsReplies script replies held
    → is_declared_reply held.script reply ≡ is_declared_reply script reply
declared_same script replies held reply stands =
    ap (λ s. is_declared_reply s reply) stands.grown.elaborated.rest_stays
    ∙ ap (λ n. ltb reply.task n && ltb reply.reply reply.task && has_home script reply.home) stands.grown.elaborated.task_count

posted_same : (script : Plan) (replies : List Reply) (held : Held) (t : ℕ) → HoldsReplies script replies held → t < length script.tasks
    → get_or held.posted.items t false ≡ is_posted script replies t
posted_same script replies held t stands there =
    ap (λ marks. get_or marks t false) stands.marks
    ∙ is_marked (length script.tasks) (postings script ++ tasks_of replies) t there
    ∙ list_any-append (λ u. eqb u t) (postings script) (tasks_of replies)
    ∙ ap (λ b. list_any (λ u. eqb u t) (postings script) || b) (any_reply replies t)

block_same : (script : Plan) (replies : List Reply) (held : Held) (reply : Reply) → HoldsReplies script replies held
    → is_bad_block held.script reply ≡ is_bad_block script reply
block_same script replies held reply stands =
    ap (λ b. b && not (home_takes_block held.script reply.home)) (stands.grown.scopes reply.reply)
    ∙ ap (λ s. opens_scope script.tasks reply.reply && not (home_takes_block s reply.home)) stands.grown.elaborated.rest_stays

-- at a limit, one more passes it
at_limit : (limit n : ℕ) → leb limit n ≡ ltb limit (n + 1)
at_limit limit n = elim (cases_lt limit (n + 1)) [
  | inl lt ↦ rw (lt-ltb limit (n + 1) lt, le-leb limit n (omega arith)) refl
  | inr le ↦ rw (le-ltb limit (n + 1) le, lt-leb limit n (omega arith)) refl
]

full_same : (script : Plan) (replies : List Reply) (held : Held) → HoldsReplies script replies held
    → (leb MOST_STEPS held.steps || leb MOST_EVENTS held.events) ≡ is_full script (length replies)
full_same script replies held stands =
    let steps = at_limit MOST_STEPS (steps_of_plan script + length replies) in
    let events = at_limit MOST_EVENTS (events_bound_of script + length replies) in
    rw (stands.steps, stands.events, steps, events) refl

-- a reply that is declared is below the number of tasks
pub declared_below : (script : Plan) (reply : Reply) → is_declared_reply script reply ≡ true → (reply.task < length script.tasks) × (reply.reply < reply.task)
    × (has_home script reply.home ≡ true)
declared_below script reply is =
    let outer = and_parts (ltb reply.task (length script.tasks) && ltb reply.reply reply.task) (has_home script reply.home) is in
    let inner = and_parts (ltb reply.task (length script.tasks)) (ltb reply.reply reply.task) outer.0 in
    (ltb-true reply.task (length script.tasks) inner.0, ltb-true reply.reply reply.task inner.1, outer.1)

-- what is held gives the reason against the reply
pub same_reason : (script : Plan) (replies : List Reply) (held : Held) (reply : Reply) → HoldsReplies script replies held
    → held_reason held reply ≡ reason_against script replies reply
unfolding held_reason reason_against
same_reason script replies held reply stands = rw (
  declared_same script replies held reply stands,
  block_same script replies held reply stands,
  full_same script replies held stands,
) (at (is_declared_reply script reply) refl)
  where
    at : (b : Bool) → is_declared_reply script reply ≡ b
        → cond (not b) (Some reply_undeclared) (cond (get_or held.posted.items reply.reply false) (Some reply_posted_twice)
        (cond (is_bad_block script reply) (Some reply_bad_block) (cond (is_full script (length replies)) (Some reply_too_many) None)))
        ≡ cond (not b) (Some reply_undeclared) (cond (is_posted script replies reply.reply) (Some reply_posted_twice)
        (cond (is_bad_block script reply) (Some reply_bad_block) (cond (is_full script (length replies)) (Some reply_too_many) None)))
    at false is = refl
    at true is =
        let below = declared_below script reply is in
        rw (posted_same script replies held reply.reply stands (omega (arith, below.0, below.1))) refl

-- ---- no reason

-- tests one after the other, each with its reason
none_left : {A : Type 0} (test : Bool) (reason : A) (rest : Option A) → cond test (Some reason) rest ≡ None → (test ≡ false) × (rest ≡ None)
none_left true reason rest h = absurd cc
none_left false reason rest h = (refl, h)

-- what the tables say of a reply against which they give no reason
pub record NoReason (held : Held) (reply : Reply) : Type 0 where
  pub declared : is_declared_reply held.script reply ≡ true
  pub not_posted : get_or held.posted.items reply.reply false ≡ false
  pub no_bad_block : is_bad_block held.script reply ≡ false
  pub few_steps : held.steps < MOST_STEPS
  pub few_events : held.events < MOST_EVENTS

pub no_reason : (held : Held) (reply : Reply) → held_reason held reply ≡ None → NoReason held reply
unfolding held_reason
no_reason held reply h =
    let a = none_left (not (is_declared_reply held.script reply)) reply_undeclared _ h in
    let b = none_left (get_or held.posted.items reply.reply false) reply_posted_twice _ a.1 in
    let c = none_left (is_bad_block held.script reply) reply_bad_block _ b.1 in
    let d = none_left (leb MOST_STEPS held.steps || leb MOST_EVENTS held.events) reply_too_many None c.1 in
    let limits = or_parts (leb MOST_STEPS held.steps) (leb MOST_EVENTS held.events) d.0 in
    record {
      declared = not-false (is_declared_reply held.script reply) a.0;
      not_posted = b.0;
      no_bad_block = c.0;
      few_steps = leb-false MOST_STEPS held.steps limits.0;
      few_events = leb-false MOST_EVENTS held.events limits.1;
    }

-- such a reply may stand
pub may_stand : (script : Plan) (replies : List Reply) (held : Held) (reply : Reply) → HoldsReplies script replies held → NoReason held reply
    → MayStand held.script reply
may_stand script replies held reply stands none =
    let below = declared_below held.script reply none.declared in
    let there : reply.reply < length script.tasks = omega (arith, below.0, below.1, stands.grown.elaborated.task_count) in
    let names = λ (u : ℕ). eqb u reply.reply in
    let unmarked : list_any names (postings script ++ tasks_of replies) ≡ false =
    sym (ap (λ marks. get_or marks reply.reply false) stands.marks
    ∙ is_marked (length script.tasks) (postings script ++ tasks_of replies) reply.reply there) ∙ none.not_posted in
    let counted = count_none names (postings script ++ tasks_of replies) unmarked in
    let parts = count-append names (postings script) (tasks_of replies) in
    record {
      task_there = below.0;
      below = below.1;
      home_there = below.2;
      no_bad_block = none.no_bad_block;
      few_steps = omega (arith, none.few_steps, stands.steps, stands.grown.steps);
      few_events = omega (arith, none.few_events, stands.events, stands.grown.events);
      fresh = omega (arith, stands.grown.posted reply.reply, counted, parts);
    }
