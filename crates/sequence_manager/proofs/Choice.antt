-- The choice among the open fronts is the selector's, and is the first task of its lane.
-- Cited by `Streak`, `Takes`, `Taking`.
use Rattle.std.proofs.Common.{◌≡◌, ℕ, ◌<◌, Bool, true, false, cond, List, length, map, refl, sym, ap, ◌∙◌, subst, Option, Some, None, inl, inr, arith}
use Rattle.std.specs.Prelude.{◌&&◌, ◌==◌, ◌⊎◌, not, nat_lt, find, filter, Contains}
use Rattle.std.specs.List.{range_with_len}
use Rattle.std.specs.Option.{option_map, option_map_or, option_to_list}
use Rattle.std.proofs.lemmas.Bool.{and_parts, not-true}
use Rattle.std.proofs.lemmas.List.{length-map}
use Rattle.std.proofs.lemmas.List.Elements.{Contains-append_cases}
use Rattle.list_laws.specs.Lists.{holds_of, least}
use Rattle.list_laws.specs.Sorts.{SameMembers}
use Rattle.list_laws.proofs.Filters.{filter-map, filter_congr}
use Rattle.list_laws.proofs.Least.{least-map, least_is_least}
use Rattle.list_laws.proofs.Made.{filter_contains, range_contains}
use Rattle.list_laws.proofs.Ranks.{ranks_by}
use Rattle.queue_laws.proofs.Arrivals.{front_is_first_arrival}
use Rattle.queue_laws.specs.Fronts.{front_for}
use Rattle.queue_selector.specs.Fronts as seen
use Rattle.queue_selector.specs.Selecting.{Selecting, choice, immediate_is_open}
use Rattle.queue_selector.specs.declared.front.Front.{Front as SeenFront}
use Rattle.task_base.specs.Plan.{Plan}
use Rattle.task_base.specs.declared.entry.Entry.{Entry}
use Rattle.task_base.specs.declared.script.Lane.{Lane}
use Rattle.task_base.specs.declared.script.Lane.TheVariants.{Immediate, Delayed}
use Rattle.task_model.specs.MainQueues.{Front, chosen_of, choice_among, class_below, fence_of, front_of, fronts_of, immediate_fronts}
use Rattle.task_model.specs.MainQueues.{immediate_of_least_class, is_enabled, is_immediate, is_in_lane, is_open, is_starved}
use Rattle.task_model.specs.MainQueues.{least_class, of_least_class, open_fronts, order_below, streak_of}
use Rattle.queue_laws.specs.Orders.{Ordered, main_arrivals, ordered}
use Rattle.task_model.specs.Posts.{Posted}
use Rattle.task_model.specs.Refusal.{is_closed}
use Rattle.sequence_manager.specs.Queues.{IsTable, row_of}
use Rattle.sequence_manager.proofs.Fronts.{open_fronts_seen, seen_as}
use Rattle.sequence_manager.proofs.Lists.{contains_one, flat_map_contains}

-- both words for the immediate lane
same_lane : (lane : Lane) → seen.is_immediate lane ≡ is_immediate lane
same_lane Immediate = refl
same_lane Delayed = refl

-- the least class among some fronts
class_seen : (fronts : List Front) → seen.least_class (map seen_as fronts) ≡ least_class fronts
class_seen fronts = ap (option_map (λ f. f.class)) (least-map class_below seen.class_below seen_as fronts (λ a b. refl)) ∙ by_least (least class_below fronts)
  where
    by_least : (o : Option Front) → option_map (λ f. f.class) (option_map seen_as o) ≡ option_map (λ f. f.class) o
    by_least None = refl
    by_least (Some f) = refl

-- the fronts of the least class
of_class_seen : (fronts : List Front) → seen.of_least_class (map seen_as fronts) ≡ map seen_as (of_least_class fronts)
unfolding of_least_class
of_class_seen fronts =
    ap (λ least. filter (λ f. holds_of (λ class. f.class == class) least) (map seen_as fronts)) (class_seen fronts)
    ∙ filter-map (λ f. holds_of (λ class. f.class == class) (least_class fronts)) seen_as fronts

-- the immediate ones among them
immediate_seen : (fronts : List Front) → seen.immediate_of_least_class (map seen_as fronts) ≡ map seen_as (immediate_of_least_class fronts)
immediate_seen fronts =
    ap (filter (λ f. seen.is_immediate f.lane)) (of_class_seen fronts)
    ∙ filter-map (λ f. seen.is_immediate f.lane) seen_as (of_least_class fronts)
    ∙ ap (map seen_as) (filter_congr (λ f. seen.is_immediate f.lane) (λ f. is_immediate f.lane) (of_least_class fronts) (λ f. same_lane f.lane))

-- whether one of them waits
waits_seen : (fronts : List Front)
    → nat_lt 0 (length (seen.immediate_of_least_class (map seen_as fronts))) ≡ nat_lt 0 (length (immediate_of_least_class fronts))
waits_seen fronts = ap (λ fs. nat_lt 0 (length fs)) (immediate_seen fronts) ∙ ap (nat_lt 0) (length-map (immediate_of_least_class fronts) seen_as)

-- the choice among fronts
choice_among_seen : (fronts : List Front) (streak : ℕ) → seen.choice_among (map seen_as fronts) streak ≡ option_map seen_as (choice_among fronts streak)
unfolding choice_among
choice_among_seen fronts streak =
    ap (least seen.order_below) (rw (waits_seen fronts, immediate_seen fronts, of_class_seen fronts) (picked (is_starved fronts streak)))
    ∙ least-map order_below seen.order_below seen_as (cond (is_starved fronts streak) (immediate_of_least_class fronts) (of_least_class fronts)) (λ a b. refl)
  where
    picked : (b : Bool) → cond b (map seen_as (immediate_of_least_class fronts)) (map seen_as (of_least_class fronts))
        ≡ map seen_as (cond b (immediate_of_least_class fronts) (of_least_class fronts))
    picked true = refl
    picked false = refl

-- the selector stands for the streak and for the open fronts of the past
pub record Knows (script : Plan) (past : List Entry) (waiting : List Posted) (selector : Selecting) : Type 0 where
  pub same : SameMembers (main_arrivals past) (ordered past)
  pub rows : IsTable (row_of script past (main_arrivals past) waiting) (length script.queues) selector.rows
  pub streak : selector.streak ≡ streak_of script past

-- a front by its queue and its lane
abbrev pub place_of : Front → ℕ × Lane
place_of f = (f.queue, f.lane)

-- it chooses the chosen front
pub choice_seen : (script : Plan) (past : List Entry) (waiting : List Posted) (selector : Selecting) → Knows script past waiting selector
    → choice selector ≡ option_map place_of (chosen_of script past)
choice_seen script past waiting selector knows =
    ap (λ fronts. option_map seen_place (seen.choice_among fronts selector.streak)) (open_fronts_seen script past waiting selector knows.same knows.rows)
    ∙ ap (λ n. option_map seen_place (seen.choice_among (map seen_as (open_fronts script past)) n)) knows.streak
    ∙ ap (option_map seen_place) (choice_among_seen (open_fronts script past) (streak_of script past))
    ∙ by_chosen (chosen_of script past)
  where
    seen_place : SeenFront → ℕ × Lane
    seen_place f = (f.queue, f.lane)

    by_chosen : (o : Option Front) → option_map seen_place (option_map seen_as o) ≡ option_map place_of o
    by_chosen None = refl
    by_chosen (Some f) = refl

-- and knows whether an immediate front of its class is open
pub immediate_is_open_seen : (script : Plan) (past : List Entry) (waiting : List Posted) (selector : Selecting) → Knows script past waiting selector
    → immediate_is_open selector ≡ nat_lt 0 (length (immediate_fronts script past))
immediate_is_open_seen script past waiting selector knows =
    ap (λ fronts. nat_lt 0 (length (seen.immediate_of_least_class fronts))) (open_fronts_seen script past waiting selector knows.same knows.rows)
    ∙ waits_seen (open_fronts script past)

-- a front of the least class is one of the fronts
of_class_among : (fronts : List Front) (f : Front) → Contains (of_least_class fronts) f → Contains fronts f
unfolding of_least_class
of_class_among fronts f h = (filter_contains (λ x. holds_of (λ class. x.class == class) (least_class fronts)) fronts f h).0

-- so is the choice
chosen_among : (fronts : List Front) (streak : ℕ) (f : Front) → choice_among fronts streak ≡ Some f → Contains fronts f
unfolding choice_among
chosen_among fronts streak f is = of_class_among fronts f (by_starved (is_starved fronts streak) is)
  where
    least_in : (fs : List Front) → least order_below fs ≡ Some f → Contains fs f
    least_in fs h = (least_is_least order_below (ranks_by (λ x. x.order)) fs f h).member

    by_starved : (b : Bool) → least order_below (cond b (immediate_of_least_class fronts) (of_least_class fronts)) ≡ Some f → Contains (of_least_class fronts) f
    by_starved true h = (filter_contains (λ x. is_immediate x.lane) (of_least_class fronts) f (least_in (immediate_of_least_class fronts) h)).0
    by_starved false h = least_in (of_least_class fronts) h

-- an open front is the front of a lane of a queue that is declared
open_among : (script : Plan) (past : List Entry) (f : Front) → Contains (open_fronts script past) f
    → (q : ℕ) × (q < length script.queues) × Contains (fronts_of script past q) f × (is_open script past f ≡ true)
unfolding open_fronts
open_among script past f h =
    let (among, passes) = filter_contains (is_open script past) _ f h in
    let (q, declared, inside) = flat_map_contains (fronts_of script past) (range_with_len 0 (length script.queues)) f among in
    (q, range_contains (length script.queues) q declared, inside, passes)

-- the queue and lane of the chosen front, and the first task of that lane
pub record IsChosen (script : Plan) (past : List Entry) (queue : ℕ) (lane : Lane) : Type 0 where
  pub front : Front
  pub chosen : chosen_of script past ≡ Some front
  pub queue_is : front.queue ≡ queue
  pub declared : queue < length script.queues
  pub still_open : is_closed past queue ≡ false
  pub first : Ordered
  pub found : find (λ o. is_in_lane past queue lane o.posted) (main_arrivals past) ≡ Some first
  pub task_is : front.task ≡ first.posted.task

-- the chosen front is the first task of its lane
pub chosen_is : (script : Plan) (past : List Entry) (f : Front) → SameMembers (main_arrivals past) (ordered past) → chosen_of script past ≡ Some f
    → IsChosen script past f.queue f.lane
chosen_is script past f same is =
    let (q, declared, inside, passes) = open_among script past f (chosen_among (open_fronts script past) (streak_of script past) f is) in
    of_queue q declared passes (Contains-append_cases (option_to_list (front_of script past q Immediate)) (option_to_list (front_of script past q Delayed))
    f inside)
  where
    of_first : (q : ℕ) (lane : Lane) → q < length script.queues → is_open script past f ≡ true → (o : Option Ordered)
        → find (λ x. is_in_lane past q lane x.posted) (main_arrivals past) ≡ o → Contains (option_to_list (option_map (front_for script past q lane) o)) f
        → IsChosen script past f.queue f.lane
    of_first q lane declared passes None found h = absurd (omega (arith, h.1))
    of_first q lane declared passes (Some o) found h =
        let here : front_for script past q lane o ≡ f = contains_one (front_for script past q lane o) f h in
        subst (λ x. IsChosen script past x.queue x.lane) here (record {
          front = front_for script past q lane o;
          chosen = is ∙ ap (λ x. Some x) (sym here);
          queue_is = refl;
          declared = declared;
          still_open = not-true (is_closed past q) (and_parts (not (is_closed past q)) (is_enabled script past q)
              (and_parts (not (is_closed past q) && is_enabled script past q) (option_map_or (nat_lt o.order) (fence_of past q) true)
              (ap (is_open script past) here ∙ passes)).0).0;
          first = o;
          found = found;
          task_is = refl;
        })

    of_lane : (q : ℕ) (lane : Lane) → q < length script.queues → is_open script past f ≡ true → Contains (option_to_list (front_of script past q lane)) f
        → IsChosen script past f.queue f.lane
    of_lane q lane declared passes h = of_first q lane declared passes (find (λ x. is_in_lane past q lane x.posted) (main_arrivals past)) refl
        (subst (λ o. Contains (option_to_list o) f) (front_is_first_arrival script past q lane same) h)

    of_queue : (q : ℕ) → q < length script.queues → is_open script past f ≡ true
        → Contains (option_to_list (front_of script past q Immediate)) f ⊎ Contains (option_to_list (front_of script past q Delayed)) f
        → IsChosen script past f.queue f.lane
    of_queue q declared passes (inl here) = of_lane q Immediate declared passes here
    of_queue q declared passes (inr here) = of_lane q Delayed declared passes here
