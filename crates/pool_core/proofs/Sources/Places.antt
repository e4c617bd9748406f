-- The queues while the sequence of each task that was posted is given its place.
-- Cited by `Pool::refresh_all`, `Pool::start_shutdown`, `Calls/Reprio`, `Calls/Shutdown`.
use Rattle.list_laws.proofs.Values.{some-injective}
use Rattle.pool_core.proofs.Accepted.{head_accepted, is_declared, post_in}
use Rattle.pool_core.proofs.Sources.Following.{has_place, lane_fits, runner_is, sequence_given, sequence_made}
use Rattle.pool_core.proofs.Jobs.JobQueues.{job_made}
use Rattle.pool_core.proofs.Lines.{first_is_head}
use Rattle.pool_core.proofs.Lists.{same_inside}
use Rattle.pool_core.proofs.Sources.Queues.{place_beside, place_given, roomy_kept, same_source, shape_kept}
use Rattle.pool_core.specs.JobState.{HasJobPlace, HaveJobPlaces}
use Rattle.pool_core.specs.Pasts.{IsPoolPast, IsPoolScript}
use Rattle.pool_core.specs.Queues.{HoldBy, IsPlaced, queue_of, with_source}
use Rattle.pool_core.specs.Refreshes.{AllDeclared, ArePlaced, HavePlaces, IsUnposted, placed, posted_at, refreshed_below, with_place}
use Rattle.pool_core.specs.StandsFor.{StandsFor}
use Rattle.pool_core.specs.State.{HasPlace, lane_by, rank_by, runner_of, sequence_by, standing}
use Rattle.pool_core.specs.Tables.{ArePostings, posting_of}
use Rattle.pool_core.specs.declared.lanes.Lane.{Lane}
use Rattle.pool_core.specs.declared.pool.Pool.{Pool}
use Rattle.pool_core.specs.declared.posting.Posting.{Posting}
use Rattle.sequence_queue.specs.Ranked.{IsMadeFor}
use Rattle.sequence_queue.specs.declared.rank.Rank.{Rank}
use Rattle.std.proofs.Common.{Bool, List, None, Option, Some, ap, arith, inl, inr, length}
use Rattle.std.proofs.Common.{refl, subst, suc, sym, true, zero, ℕ, ◌+◌, ◌<◌, ◌^◌, ◌∙◌, ◌≡◌}
use Rattle.std.proofs.lemmas.Bool.{cases_eq}
use Rattle.std.proofs.lemmas.List.{get_or_read, length-set}
use Rattle.std.proofs.lemmas.Option.{get_or_from_slice_get, none-some, slice_get_within, unwrap_or-slice_get}
use Rattle.std.specs.Option.{option_map}
use Rattle.std.specs.declared.alloc.Global.{Global}
use Rattle.std.specs.declared.vec.Vec.{Vec}
use Rattle.std.specs.Prelude.{Contains, slice_get, slice_index_or, unwrap_or}
use Rattle.task_base.specs.Plan.{Plan}
use Rattle.task_base.specs.Runners.{sequence_count, sequence_of}
use Rattle.task_base.specs.declared.entry.Entry.{Entry}
use Rattle.task_base.specs.declared.source.Key.{Key}
use Rattle.task_base.specs.declared.source.TaskSource.{TaskSource}
use Rattle.task_base.specs.declared.source.TaskSource.TheVariants.{Sequence}
use Rattle.task_model.specs.Posts.{Posted, posts}
use Rattle.pool_laws.specs.Posts.{post_of}
use Rattle.task_model.specs.Keys.{Ready}
use Rattle.task_model.specs.Sequences.{head_of}
use Rattle.task_model.specs.Sources.{Candidate}
use Rattle.task_runners.specs.Table.{table_of}
use Rattle.task_sequence.specs.Sequences.{Held, first_of, sequence_at}
use Rattle.task_traits.specs.declared.traits.Priority.{Priority}
use Rattle.task_tracker.specs.Tracked.{Tracked}

-- The sequences of the tasks, one by one.

-- a task that was posted is one of those
posted_is : (postings : List (Option Posting)) (t : ℕ) (posting : Posting) → posted_at postings t ≡ Some posting → slice_get postings t ≡ Some (Some posting)
posted_is postings t posting is = by_posting (slice_get postings t) (unwrap_or-slice_get postings t None ∙ is)
  where
    by_posting : (o : Option (Option Posting)) → unwrap_or o None ≡ Some posting → o ≡ Some (Some posting)
    by_posting None none = absurd (none-some posting none)
    by_posting (Some q) some = ap Some some

-- one more task: its sequence has its place, if it was posted, and each other source stays
step : (script : Plan) (past : List Entry) (old priorities : List Priority) (postings : List (Option Posting)) (before held : Held)
    (lanes : List Lane) (n : ℕ) (o : Option Posting) → IsPoolScript script → AllDeclared script postings → posted_at postings n ≡ o
    → ArePlaced script postings (standing script past old postings before) (standing script past priorities postings held) lanes n
    → ArePlaced script postings (standing script past old postings before) (standing script past priorities postings held)
    (with_place script priorities held lanes n o) (suc n)
step script past old priorities postings before held lanes n None limits declared is below = record {
  roomy = below.roomy;
  places = λ source. elim (below.places source) [
    | inl now ↦ inl now
    | inr kept ↦ inr (
      kept.0,
      (λ t posting less known of. elim (cases_eq t n) [
        | inl same_task ↦ none-some posting (sym is ∙ ap (posted_at postings) (sym same_task) ∙ known)
        | inr other ↦ kept.1 t posting (omega (arith, less, other)) known of
      ]),
    )
  ];
}
step script past old priorities postings before held lanes n (Some posting) limits declared is below = record {
  roomy = roomy_kept script lanes lane (Sequence own) rank below.roomy;
  places = λ source. elim (same_source source (Sequence own)) [
    | inl its_own ↦ inl (rw its_own here)
    | inr another ↦ elim (below.places source) [
      | inl now ↦ inl (stays source another _ now)
      | inr kept ↦ inr (
        stays source another _ kept.0,
        (λ t other less known of. elim (cases_eq t n) [
          | inl same_task ↦ another (sym of ∙ ap (λ k. Sequence (sequence_of script other.runner k)) same_task
              ∙ ap (λ p. Sequence (sequence_of script p.runner n)) (some-injective (sym known ∙ ap (posted_at postings) same_task ∙ is)))
          | inr other_task ↦ kept.1 t other (omega (arith, less, other_task)) known of
        ]),
      )
    ]
  ];
}
  where
    own : ℕ
    own = sequence_of script posting.runner n

    lane : ℕ
    lane = lane_by script posting.runner

    rank : Option Rank
    rank = rank_by priorities posting.runner (sequence_at held own)

    stated : slice_get postings n ≡ Some (Some posting)
    stated = posted_is postings n posting is

    runs : runner_of script postings own ≡ Some posting.runner
    runs = runner_is script postings n posting (declared n posting stated).0 stated

    made : (best : Bool) → IsMadeFor (queue_of lanes lane best) (Sequence own)
    made = sequence_made script lanes posting.runner n limits below.roomy (declared n posting stated).0 (declared n posting stated).1

    here : IsPlaced (with_source lanes lane (Sequence own) rank) (Sequence own) (standing script past priorities postings held (Sequence own))
    here = elim (below.places (Sequence own)) [
      | inl now ↦ place_given script lanes lane (Sequence own) _ _ rank
          (sequence_given script priorities priorities postings held held lanes own posting.runner limits runs made) below.roomy now
      | inr kept ↦ place_given script lanes lane (Sequence own) _ _ rank
          (sequence_given script old priorities postings before held lanes own posting.runner limits runs made) below.roomy kept.0
    ]

    stays : (source : TaskSource) → (source ≡ Sequence own → ⊥) → (candidate : Option Candidate) → IsPlaced lanes source candidate
        → IsPlaced (with_source lanes lane (Sequence own) rank) source candidate
    stays source another candidate placed = place_beside script lanes lane (Sequence own) source candidate rank (lane_fits script posting.runner limits) made
        below.roomy another placed

-- so many tasks, from none on
all_placed : (script : Plan) (past : List Entry) (old priorities : List Priority) (postings : List (Option Posting))
    (before held : Held) (lanes : List Lane) (n : ℕ) → IsPoolScript script → AllDeclared script postings
    → HoldBy script (standing script past old postings before) lanes
    → ArePlaced script postings (standing script past old postings before) (standing script past priorities postings held)
    (placed script priorities postings held lanes n) n
all_placed script past old priorities postings before held lanes zero limits declared hold =
    record { roomy = hold.roomy; places = λ source. inr (hold.places source, (λ t posting less. absurd (omega (arith, less)))) }
all_placed script past old priorities postings before held lanes (suc n) limits declared hold =
    step script past old priorities postings before held (placed script priorities postings held lanes n) n (posted_at postings n) limits
    declared refl (all_placed script past old priorities postings before held lanes n limits declared hold)

-- where a source to which no task was posted stays as it was, all are in their places
pub hold_placed : (script : Plan) (past : List Entry) (old priorities : List Priority) (postings : List (Option Posting))
    (before held : Held) (lanes : List Lane) → IsPoolScript script → AllDeclared script postings
    → ((source : TaskSource) → IsUnposted script postings source (length postings)
    → standing script past priorities postings held source ≡ standing script past old postings before source)
    → HoldBy script (standing script past old postings before) lanes
    → HoldBy script (standing script past priorities postings held) (placed script priorities postings held lanes (length postings))
hold_placed script past old priorities postings before held lanes limits declared same hold =
    let all = all_placed script past old priorities postings before held lanes (length postings) limits declared hold in record {
      roomy = all.roomy;
      places = λ source. elim (all.places source) [ inl now ↦ now | inr kept ↦ rw (same source kept.1) kept.0 ];
    }

-- a sequence to which no task was posted has no first one
pub unposted_is_empty : (script : Plan) (past : List Entry) (pool : Pool) (s : ℕ) → StandsFor script past pool
    → s < sequence_count script
    → IsUnposted script pool.postings.items (Sequence s) (length pool.postings.items) → first_of (sequence_at pool.sequences s).tasks ≡ None
unposted_is_empty script past pool s stands there none =
    first_is_head script past pool.sequences s stands.past_fits stands.lines there ∙ by_head (head_of script past s) refl
  where
    by_head : (o : Option Ready) → head_of script past s ≡ o → option_map {U = ℕ × Key} (λ r. (r.posted.task, r.key)) o ≡ None
    by_head None is = refl
    by_head (Some head) is =
        let accepted = head_accepted script past s head is in
        let posting = posting_of script head.posted in
        let known = stands.postings.known head.posted accepted.0 in
        absurd (none head.posted.task posting (slice_get_within pool.postings.items head.posted.task _ known)
        (get_or_from_slice_get pool.postings.items head.posted.task (Some posting) None known) (ap Sequence accepted.1))

-- what reads only the runners reads the same of the script
pub placed_by_table : (script : Plan) (priorities : List Priority) (postings : List (Option Posting)) (held : Held) (lanes : List Lane)
    (n : ℕ) → placed (table_of script.runners script.background) priorities postings held lanes n ≡ placed script priorities postings held lanes n
placed_by_table script priorities postings held lanes zero = refl
placed_by_table script priorities postings held lanes (suc n) =
    rw (placed_by_table script priorities postings held lanes n) (by_posted_at (posted_at postings n))
  where
    by_posted_at : (o : Option Posting) → with_place (table_of script.runners script.background) priorities held
        (placed script priorities postings held lanes n) n o ≡ with_place script priorities held (placed script priorities postings held lanes n) n o
    by_posted_at None = refl
    by_posted_at (Some posting) = refl

-- a task that has a posting was accepted
posting_known : (script : Plan) (past : List Entry) (postings : List (Option Posting)) (t : ℕ) (posting : Posting) → ArePostings script past postings
    → slice_get postings t ≡ Some (Some posting) → (p : Posted) × Contains (posts past) p × (p.task ≡ t) × (posting_of script p ≡ posting)
posting_known script past postings t posting are is = by_post (post_of past t) refl
  where
    by_post : (o : Option Posted) → post_of past t ≡ o → (p : Posted) × Contains (posts past) p × (p.task ≡ t) × (posting_of script p ≡ posting)
    by_post None none = absurd (none-some posting (some-injective
        (sym (are.unknown t (omega (arith, slice_get_within postings t (Some posting) is, are.all)) none) ∙ is)))
    by_post (Some p) some =
        let accepted = post_in past t p some in
        (p, accepted.0, accepted.1, same_inside (are.known p accepted.0) (ap (slice_get postings) accepted.1 ∙ is))

-- so its runner and the task are declared
pub all_declared : (script : Plan) (past : List Entry) (postings : List (Option Posting)) → IsPoolPast script past → ArePostings script past postings
    → AllDeclared script postings
all_declared script past postings fits are t posting is =
    let known = posting_known script past postings t posting are is in
    let stated = is_declared script past known.0 fits known.1 in
    (subst (λ q. q.runner < length script.runners) known.3 stated.0, subst (λ n. n < length script.tasks) known.2 stated.1)

-- The places while the queues change.

-- the queues are as many, and this one is made for as many sequences and jobs
abbrev SameShape : List Lane → List Lane → ℕ → Bool → Type 0
SameShape now before lane best = (length now ≡ length before) × ((queue_of now lane best).sequences ≡ (queue_of before lane best).sequences)
    × ((queue_of now lane best).jobs ≡ (queue_of before lane best).jobs)

placed_shape : (pool : Pool) (n lane : ℕ) (best : Bool)
    → SameShape (placed pool.runners pool.priorities.items pool.postings.items pool.sequences pool.lanes n) pool.lanes lane best
placed_shape pool zero lane best = (refl, refl, refl)
placed_shape pool (suc n) lane best = by_posted_at (posted_at pool.postings.items n) (placed_shape pool n lane best)
  where
    below : List Lane
    below = placed pool.runners pool.priorities.items pool.postings.items pool.sequences pool.lanes n

    by_posted_at : (o : Option Posting) → SameShape below pool.lanes lane best
        → SameShape (with_place pool.runners pool.priorities.items pool.sequences below n o) pool.lanes lane best
    by_posted_at None same = same
    by_posted_at (Some posting) same =
        let own = sequence_of pool.runners posting.runner n in
        let kept = shape_kept below (lane_by pool.runners posting.runner) (Sequence own)
        (rank_by pool.priorities.items posting.runner (sequence_at pool.sequences own)) lane best in
        (length-set below (lane_by pool.runners posting.runner) _ ∙ same.0, kept.0 ∙ same.1, kept.1 ∙ same.2)

-- so what had a place has one still
place_kept : (pool : Pool) (n s runner : ℕ) → HasPlace pool s runner → HasPlace (refreshed_below pool n) s runner
place_kept pool n s runner place =
    let shape = placed_shape pool n (lane_by pool.runners runner) in
    record {
      declared = place.declared;
      ranked = place.ranked;
      there = place.there;
      lane_there = omega (arith, (shape true).0, place.lane_there);
      made = λ best. subst (λ k. s < k) (sym (shape best).1) (place.made best);
    }

-- how a task was posted, as it is read
pub read_at : (pool self : Pool) (n : ℕ) (read : Option Posting) → self ≡ refreshed_below pool n → n < length pool.postings.items
    → read ≡ slice_index_or self.postings.items n read → read ≡ posted_at self.postings.items n
read_at pool self n read same less is = get_or_read self.postings.items n read (rw same less) is None

-- the place of the sequence of a task that was posted
pub place_at : (pool self : Pool) (n : ℕ) (posting : Posting) → HavePlaces pool → self ≡ refreshed_below pool n
    → posted_at self.postings.items n ≡ Some posting
    → (length self.runners.runners + n < 2 ^ 32) × HasPlace self (sequence_by self n posting) posting.runner
place_at pool self n posting places same is =
    let place = places n posting (posted_is pool.postings.items n posting (ap (λ p. posted_at p.postings.items n) (sym same) ∙ is)) in
    rw same (place.0, place_kept pool n (sequence_by pool n posting) posting.runner place.1)

-- one more task
pub next_refreshed : (pool self later : Pool) (n : ℕ) (o : Option Posting) → self ≡ refreshed_below pool n
    → o ≡ posted_at self.postings.items n
    → later ≡ record self { lanes = with_place self.runners self.priorities.items self.sequences self.lanes n o }
    → later ≡ refreshed_below pool (n + 1)
next_refreshed pool self later n o same known is =
    let next : suc n ≡ n + 1 = omega arith in
    is ∙ ap changed same ∙ ap reached (known ∙ ap (λ p. posted_at p.postings.items n) same) ∙ ap (refreshed_below pool) next
  where
    changed : Pool → Pool
    changed p = record p { lanes = with_place p.runners p.priorities.items p.sequences p.lanes n o }

    reached : Option Posting → Pool
    reached q = record pool {
      lanes = with_place pool.runners pool.priorities.items pool.sequences
          (placed pool.runners pool.priorities.items pool.postings.items pool.sequences pool.lanes n) n q;
    }

-- each task that was posted has a place before
pub have_places : (script : Plan) (past : List Entry) (pool : Pool) (priorities : Vec Priority Global) (tracker : Tracked) (held : Held)
    → StandsFor script past pool → length priorities.items ≡ length pool.priorities.items → length held.sequences ≡ length pool.sequences.sequences
    → HavePlaces (record pool { priorities = priorities; tracker = tracker; sequences = held })
have_places script past pool priorities tracker held stands as_many same_length task posting known =
    let declared = all_declared script past pool.postings.items stands.past_fits stands.postings task posting known in (
      omega (arith, ap (λ (t : Plan). length t.runners) stands.runners, declared.1, stands.script_fits.runners_fit, stands.script_fits.tasks_fit),
      rw stands.runners (has_place script _ posting.runner task stands.script_fits refl (as_many ∙ stands.priorities.all)
          (same_length ∙ stands.lines.all) stands.queues.roomy declared.0 declared.1),
    )

-- and so does each job
pub job_place_kept : (pool : Pool) (n j : ℕ) → HasJobPlace pool j → HasJobPlace (refreshed_below pool n) j
job_place_kept pool n j place =
    let shape = placed_shape pool n 0 in
    record { there = place.there; lane_there = rw (shape true).0 place.lane_there; made = λ best. rw (shape best).2 (place.made best) }

pub have_job_places : (script : Plan) (past : List Entry) (pool : Pool) (tracker : Tracked) (held : Held) → StandsFor script past pool
    → HaveJobPlaces (record pool { tracker = tracker; sequences = held })
have_job_places script past pool tracker held stands j there = record {
  there = there;
  lane_there = omega (arith, stands.queues.roomy.all);
  made = λ best. job_made script pool.lanes best j stands.queues.roomy (omega (arith, there, stands.jobs.all));
}
