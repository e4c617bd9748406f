-- What is held stands for the script with the replies so far: at first, and with one more.
-- Cited by `Held::read_line`.
use Rattle.std.proofs.Common.{◌≡◌, ℕ, ◌<◌, Bool, true, false, cond, eqb, List, [], ◌∷◌, ◌++◌, length, get_or, map, refl}
use Rattle.std.proofs.Common.{sym, ap, subst, ◌∙◌, Some, None, Result, Ok, Err, arith, append_assoc, append-nil}
use Rattle.std.specs.Prelude.{replicate, slice_get, slice_set}
use Rattle.std.proofs.lemmas.Bool.{both_ways, eqb-true, eq-eqb}
use Rattle.std.proofs.lemmas.List.{length_push, length-set, map-append}
use Rattle.std.proofs.lemmas.List.Elements.{filter-append}
use Rattle.std.proofs.lemmas.List.Sums.{fold-append}
use Rattle.std.proofs.lemmas.Option.{get_or_from_slice_get}
use Rattle.task_base.specs.Plan.{Plan}
use Rattle.task_base.specs.declared.step.Step.{Step}
use Rattle.list_laws.proofs.Counts.{count-append}
use Rattle.list_laws.proofs.Places.{AllByRecursion-push, slice_get-set_same, slice_get-set_other}
use Rattle.script_model.specs.Laws.Postings.{postings}
use Rattle.script_lines.specs.declared.fault.LineFault.{LineFault}
use Rattle.script_lines.specs.declared.fault.LineFault.TheVariants.{Bad, Memory}
use Rattle.task_reply.specs.declared.held.Held.{Held}
use Rattle.task_reply.specs.declared.reply.Reply.{Reply}
use Rattle.task_reply.specs.Elaborated.{IsElaborated, reply_posting, replies_to}
use Rattle.task_reply.specs.Replies.{line_read, reply_line_said, reason_against, reply_added}
use Rattle.task_reply.specs.Tables.{Adds, IsAdded, IsGrown, marked, SaysReply, HoldsReplies, ReplyTurns, with_task_step}
use Rattle.task_reply.proofs.Growing.{events_grow, postings_grow, scopes_stay, steps_grow}
use Rattle.task_reply.proofs.Reasons.{may_stand, no_reason, same_reason, tasks_of}
use Rattle.task_reply.proofs.StaysSound.{MayStand, stays_sound}

-- ---- at first

-- ---- one more

-- the replies of a task, with one more reply
replies_push : (t : ℕ) (replies : List Reply) (reply : Reply) (b : Bool) → eqb reply.task t ≡ b
    → replies_to t (replies ++ reply ∷ []) ≡ replies_to t replies ++ cond b (reply ∷ []) []
replies_push t replies reply b is = filter-append (λ r. eqb r.task t) replies (reply ∷ []) ∙ ap (λ c. replies_to t replies ++ cond c (reply ∷ []) []) is

elaborated_push : (script now : Plan) (replies : List Reply) (reply : Reply) → IsElaborated script replies now → reply.task < length now.tasks
    → IsElaborated script (replies ++ reply ∷ []) (with_task_step now reply.task (reply_posting reply))
elaborated_push script now replies reply done there = record {
  tasks_there = AllByRecursion-push (λ (r : Reply). r.task < length script.tasks) replies reply done.tasks_there (omega (arith, there, done.task_count));
  task_count = length-set now.tasks reply.task more ∙ done.task_count;
  steps_added = λ t own is. at t own (done.steps_added t own is) (eqb reply.task t) refl;
  rest_stays = ap (λ (s : Plan). record s { tasks = slice_set now.tasks reply.task more }) done.rest_stays;
}
  where
    more : List Step
    more = get_or now.tasks reply.task [] ++ reply_posting reply ∷ []

    at : (t : ℕ) (own : List Step) → slice_get now.tasks t ≡ Some (own ++ map reply_posting (replies_to t replies)) → (b : Bool) → eqb reply.task t ≡ b
        → slice_get (slice_set now.tasks reply.task more) t ≡ Some (own ++ map reply_posting (replies_to t (replies ++ reply ∷ [])))
    at t own was true is =
        let same : reply.task ≡ t = eqb-true reply.task t is in
        let had : get_or now.tasks reply.task [] ≡ own ++ map reply_posting (replies_to t replies) =
        get_or_from_slice_get now.tasks reply.task _ [] (ap (slice_get now.tasks) same ∙ was) in
        ap (slice_get (slice_set now.tasks reply.task more)) (sym same)
        ∙ slice_get-set_same now.tasks reply.task more there
        ∙ ap Some (rw (had, replies_push t replies reply true is, map-append reply_posting (replies_to t replies) (reply ∷ []), append_assoc) refl)
    at t own was false is =
        slice_get-set_other now.tasks reply.task t more (λ same. both_ways (eqb reply.task t) is (eq-eqb reply.task t same))
        ∙ was ∙ ap (λ rs. Some (own ++ map reply_posting rs)) (sym (replies_push t replies reply false is ∙ append-nil (replies_to t replies)))

-- the tasks that replies post, with one more reply
tasks_push : (replies : List Reply) (reply : Reply) → tasks_of (replies ++ reply ∷ []) ≡ tasks_of replies ++ reply.reply ∷ []
tasks_push replies reply = map-append (λ (r : Reply). r.reply) replies (reply ∷ [])

grown_push : (script now : Plan) (replies : List Reply) (reply : Reply) → IsGrown script replies now → MayStand now reply
    → IsGrown script (replies ++ reply ∷ []) (with_task_step now reply.task (reply_posting reply))
grown_push script now replies reply grown may =
    let one = length_push replies reply in
    record {
      elaborated = elaborated_push script now replies reply grown.elaborated may.task_there;
      sound = stays_sound now reply grown.sound may;
      steps = omega (arith, steps_grow now reply.task (reply_posting reply) may.task_there, grown.steps, one);
      events = omega (arith, events_grow now reply.task reply.reply reply.home may.task_there, grown.events, one);
      posted = λ t.
          let more = count-append (λ u. eqb u t) (tasks_of replies) (reply.reply ∷ []) in
          rw (tasks_push replies reply)
          (omega (arith, postings_grow now reply.task reply.reply t reply.home may.task_there, grown.posted t, more));
      scopes = λ t. scopes_stay now reply.task reply.reply t reply.home may.task_there ∙ grown.scopes t;
    }

-- the marks with one more
marked_push : (marks : List Bool) (posted tasks : List ℕ) (u : ℕ)
    → marked marks (posted ++ (tasks ++ u ∷ [])) ≡ slice_set (marked marks (posted ++ tasks)) u true
marked_push marks posted tasks u =
    rw (← append_assoc) (fold-append (λ all task. slice_set all task true) marks (posted ++ tasks) (u ∷ []))

-- what is held goes on with the reply
stands_push : (script : Plan) (replies : List Reply) (old new : Held) (reply : Reply) → HoldsReplies script replies old → IsAdded old new reply
    → HoldsReplies script (replies ++ reply ∷ []) new
stands_push script replies old new reply stands added =
    let may = may_stand script replies old reply stands (no_reason old reply added.no_reason) in
    let one = length_push replies reply in
    record {
      grown = subst (IsGrown script (replies ++ reply ∷ [])) (sym added.script) (grown_push script old.script replies reply stands.grown may);
      marks = added.marks ∙ ap (λ marks. slice_set marks reply.reply true) stands.marks
          ∙ sym (ap (λ tasks. marked (replicate (length script.tasks) false) (postings script ++ tasks)) (tasks_push replies reply)
          ∙ marked_push (replicate (length script.tasks) false) (postings script) (tasks_of replies) reply.reply);
      steps = omega (arith, added.steps, stands.steps, one);
      events = omega (arith, added.events, stands.events, one);
    }

-- ---- a line

-- a reply that is added is what the line gives; one against which there is a reason makes it bad
adds_turns : (r : Result (Unit {0}) LineFault) (script : Plan) (replies : List Reply) (old new : Held) (reply : Reply) → HoldsReplies script replies old
    → Adds r old new reply → ReplyTurns r script new (reply_added script replies (Some reply))
adds_turns (Ok done) script replies old new reply stands added =
    let none : reason_against script replies reply ≡ None = sym (same_reason script replies old reply stands) ∙ added.no_reason in
    (replies ++ reply ∷ [], rw none refl, stands_push script replies old new reply stands added)
adds_turns (Err (Bad reason)) script replies old new reply stands is = rw (sym (same_reason script replies old reply stands) ∙ is) refl
adds_turns (Err (Memory error)) script replies old new reply stands is = tt

-- a line that says a reply
pub reply_turns : (r : Result (Unit {0}) LineFault) (script : Plan) (replies : List Reply) (old new : Held) (reply : Reply) (line : List ℕ)
    → HoldsReplies script replies old → reply_line_said line ≡ Ok (Some reply) → Adds r old new reply → ReplyTurns r script new (line_read script replies line)
unfolding line_read
reply_turns r script replies old new reply line stands said added = rw said (adds_turns r script replies old new reply stands added)

-- a line that is skipped
pub skip_turns : (script : Plan) (replies : List Reply) (held : Held) (line : List ℕ) → HoldsReplies script replies held → reply_line_said line ≡ Ok None
    → ReplyTurns (Ok tt) script held (line_read script replies line)
unfolding line_read
skip_turns script replies held line stands said = rw said (replies, refl, stands)

-- a line that is none
pub bad_turns : (fault : LineFault) (script : Plan) (replies : List Reply) (held : Held) (line : List ℕ) → SaysReply (Err fault) (reply_line_said line)
    → ReplyTurns (Err fault) script held (line_read script replies line)
unfolding line_read
bad_turns (Bad reason) script replies held line said = rw said refl
bad_turns (Memory error) script replies held line said = tt
