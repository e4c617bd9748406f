-- From the parts that an entry does not move: it moves none of fewer of them, and what is told of one of them stays.
-- Cited by `Jobs`, `Choice/Candidates`, `Choice/Held`, `Choice/Waiting`, `Keys/Posts`, `Keys/Ready`, `Keys/Sequences`, `Seats/Running`,
-- `Shutdown/Blockers`, `Shutdown/Jobs`, `Shutdown/Tasks`, `pool_core`, `queue_laws`, `sequence_manager`.
use Rattle.std.proofs.Common.{◌≡◌, ℕ, Bool, true, false, List, [], ◌∷◌, refl, sym, ap, ◌∙◌, None}
use Rattle.std.specs.Prelude.{◌==◌, ◌&&◌, ◌||◌, not}
use Rattle.std.specs.List.{list_all, list_any}
use Rattle.std.proofs.lemmas.Bool.{true≢false, and_from, and_parts, eqb-true, not-true}
use Rattle.task_base.specs.declared.entry.Entry.{Entry}
use Rattle.task_base.specs.declared.entry.Kind.{Kind}
use Rattle.task_base.specs.declared.entry.Kind.TheVariants as kinds
use Rattle.task_base.specs.declared.policy.Policy.{Policy}
use Rattle.task_model.specs.Jobs.{cancels, claims, value_by}
use Rattle.task_model.specs.Phase.{phase_after}
use Rattle.task_model.specs.Policies.{policy_after}
use Rattle.task_model.specs.Posts.{ends, posted_by, takes}
use Rattle.task_model.specs.Time.{is_tick_from, now_after}
use Rattle.task_traits.specs.declared.phase.Phase.{Phase}
use Rattle.pool_laws.specs.Jobs.{posts_job}
use Rattle.pool_laws.specs.Room.{scopes}
use Rattle.pool_laws.specs.Moves.{Part, Posts, Moment, Takes, Ends, Policies, Scopes, JobPosts, Items, Cancels, Phases, counts, has, moves, number, part_of, within, apart}

-- what passes at each part of the list passes at one that is in it
at_part : (test : ℕ → Bool) (parts : List Part) (part : Part) → list_all (λ p. test (number p)) parts ≡ true → has parts part ≡ true
    → test (number part) ≡ true
at_part test [] part each is = absurd (true≢false (sym is))
at_part test (p ∷ parts) part each is =
    let both = and_parts (test (number p)) (list_all (λ q. test (number q)) parts) each in
    by_number (number p == number part) refl both.0 (at_part test parts part both.1) is
  where
    by_number : (b : Bool) → (number p == number part) ≡ b → test (number p) ≡ true → (has parts part ≡ true → test (number part) ≡ true)
        → (b || has parts part) ≡ true → test (number part) ≡ true
    by_number true same first later any = ap test (sym (eqb-true (number p) (number part) same)) ∙ first
    by_number false other first later any = later any

-- one of the parts has the number
abbrev numbered : List Part → ℕ → Bool
numbered parts n = list_any (λ p. number p == n) parts

-- an entry that moves none of many moves none of few
pub moves_fewer : (few many : List Part) (kind : Kind) → within few many ≡ true → moves many kind ≡ false → moves few kind ≡ false
moves_fewer few many kind h none = by_part (has few (part_of kind)) refl
  where
    by_part : (b : Bool) → has few (part_of kind) ≡ b → (b && counts kind) ≡ false
    by_part true is = ap (λ b. b && counts kind) (sym (at_part (numbered many) few (part_of kind) h is)) ∙ none
    by_part false is = refl

-- an entry that moves one of these moves none of those
pub moves_apart : (these those : List Part) (kind : Kind) → apart these those ≡ true → moves these kind ≡ true → moves those kind ≡ false
moves_apart these those kind h one = let is = (and_parts (has these (part_of kind)) (counts kind) one).0 in
    ap (λ b. b && counts kind) (not-true (has those (part_of kind)) (at_part (λ n. not (numbered those n)) these (part_of kind) h is))

-- What stays where its part is not moved.

unmoved : {b : Bool} → b ≡ true → (b && true) ≡ false → ⊥
unmoved {b = b} is none = true≢false (sym (and_from b true is refl) ∙ none)

pub no_posted : (parts : List Part) (past : List Entry) (kind : Kind) → has parts Posts ≡ true → moves parts kind ≡ false → posted_by past kind ≡ []
no_posted parts past (kinds.Post task runner delay true) is h = absurd (unmoved is h)
no_posted parts past kind is h = refl

pub no_take : (parts : List Part) (kind : Kind) → has parts Takes ≡ true → moves parts kind ≡ false → (t : ℕ) → takes t kind ≡ false
no_take parts (kinds.Take task runner found) is h t = absurd (unmoved is h)
no_take parts kind is h t = refl

pub no_end : (parts : List Part) (kind : Kind) → has parts Ends ≡ true → moves parts kind ≡ false → (t : ℕ) → ends t kind ≡ false
no_end parts (kinds.End task left) is h t = absurd (unmoved is h)
no_end parts kind is h t = refl

pub no_tick : (parts : List Part) (kind : Kind) → has parts Moment ≡ true → moves parts kind ≡ false → (moment : ℕ) → is_tick_from moment kind ≡ false
no_tick parts (kinds.Tick now) is h moment = absurd (unmoved is h)
no_tick parts kind is h moment = refl

pub same_moment : (parts : List Part) (kind : Kind) → has parts Moment ≡ true → moves parts kind ≡ false → (moment : ℕ) → now_after moment kind ≡ moment
same_moment parts (kinds.Tick now) is h moment = absurd (unmoved is h)
same_moment parts kind is h moment = refl

pub same_phase : (parts : List Part) (kind : Kind) → has parts Phases ≡ true → moves parts kind ≡ false → (phase : Phase) → phase_after phase kind ≡ phase
same_phase parts kinds.Shutdown is h phase = absurd (unmoved is h)
same_phase parts kinds.Done is h phase = absurd (unmoved is h)
same_phase parts kind is h phase = refl

pub same_policy : (parts : List Part) (kind : Kind) → has parts Policies ≡ true → moves parts kind ≡ false → (policy : Policy)
    → policy_after policy kind ≡ policy
same_policy parts (kinds.Policy new) is h policy = absurd (unmoved is h)
same_policy parts kind is h policy = refl

pub no_scope : (parts : List Part) (kind : Kind) → has parts Scopes ≡ true → moves parts kind ≡ false → (t : ℕ) → scopes t kind ≡ false
no_scope parts (kinds.Enter task scope) is h t = absurd (unmoved is h)
no_scope parts (kinds.Leave task) is h t = absurd (unmoved is h)
no_scope parts kind is h t = refl

pub no_job_post : (parts : List Part) (kind : Kind) → has parts JobPosts ≡ true → moves parts kind ≡ false → (j : ℕ) → posts_job j kind ≡ false
no_job_post parts (kinds.JobPost job ok) is h j = absurd (unmoved is h)
no_job_post parts kind is h j = refl

pub no_cancel : (parts : List Part) (kind : Kind) → has parts Cancels ≡ true → moves parts kind ≡ false → (j : ℕ) → cancels j kind ≡ false
no_cancel parts (kinds.JobCancel job) is h j = absurd (unmoved is h)
no_cancel parts kind is h j = refl

pub no_claim : (parts : List Part) (kind : Kind) → has parts Items ≡ true → moves parts kind ≡ false → (j : ℕ) → claims j kind ≡ false
no_claim parts (kinds.JobTake job id item) is h j = absurd (unmoved is h)
no_claim parts (kinds.JobStep job id item value next) is h j = absurd (unmoved is h)
no_claim parts kind is h j = refl

pub no_value : (parts : List Part) (kind : Kind) → has parts Items ≡ true → moves parts kind ≡ false → (j : ℕ) → value_by j kind ≡ None
no_value parts (kinds.JobStep job id item value next) is h j = absurd (unmoved is h)
no_value parts kind is h j = refl
