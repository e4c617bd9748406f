-- What a step of the search leaves, and what it begins with.
-- Cited by `go_on`, `search`.
use Rattle.std.proofs.Common.{◌≡◌, ℕ, ◌<◌, ◌≤◌, Bool, true, false, List, [], drop, get_or, length, arith, refl, subst, sym, ap, ◌∙◌, inl, inr}
use Rattle.std.specs.Prelude.{◌⊎◌}
use Rattle.std.proofs.lemmas.Bool.{cases_lt}
use Rattle.std.proofs.lemmas.List.{length-map}
use Rattle.hist_model.proofs.Laws.Legal.{nothing_is_legal}
use Rattle.order_model.specs.declared.event.Event.{Event}
use Rattle.order_model.specs.Orders.{IsBeginning, IsOrder, own_events}
use Rattle.order_search.specs.Arranged.{IsWithout}
use Rattle.order_search.specs.Following.{Follows}
use Rattle.order_search.specs.Search.{GoesBack, IsNext, IsWalk, IsWalkAt, Keeps, Known, Stood}
use Rattle.order_search.specs.Walk.{AllTried, IsRuledOut, IsTask, Task, events_in}
use Rattle.order_search.specs.declared.best.Best.{Best}
use Rattle.order_search.specs.declared.follower.Follower.{Follower}
use Rattle.order_search.specs.declared.placed.Placed.{Placed}
use Rattle.order_search.specs.declared.walk.Walk.{Walk}
use Rattle.order_search.proofs.Steps.{begins_here, parted_here}

-- the search stands before its first step
pub stood_first : (task : Task) (walk : Walk) → IsTask task → walk.heads.items ≡ task.heads → walk.path.items ≡ [] → walk.start ≡ 0
    → walk.best.events.items ≡ [] → walk.best.rest.items ≡ task.tries → Follows task.script [] walk.follower → Stood task walk
stood_first task walk is heads path start best rest follows = record {
  walk_is = rw (path, start) (record {
    is = is;
    stands = heads;
    tried = λ seat within early. absurd (omega (arith, early));
    legal = nothing_is_legal task.script;
    follows = follows;
  });
  best_is = rw (best, rest) (record { own = λ seat. refl; times = refl; legal = nothing_is_legal task.script });
}

-- where the search finds no seat to try, all were tried
pub all_tried : {known : Known} {heads : List ℕ} {path : List Placed} {start : ℕ} {follower : Follower} (end seat : ℕ)
    → IsWalkAt known heads path start follower → IsNext heads start end seat → length heads ≤ seat → end ≡ length known.task.tries
    → AllTried known.task heads start
all_tried {known} {heads} {path} {start} end seat walk next none end_is other within = by_start (cases_lt (get_or heads other 0) start)
  where
    by_end : start ≤ get_or heads other 0 → (get_or heads other 0 < end) ⊎ (end ≤ get_or heads other 0)
        → (get_or heads other 0 < start) ⊎ (length known.task.tries ≤ get_or heads other 0)
    by_end later (inl before) =
        absurd (omega (arith, none, (next.first other (omega (arith, within, (parted_here walk).count)) later before).0))
    by_end later (inr past) = inr (omega (arith, past, end_is))

    by_start : (get_or heads other 0 < start) ⊎ (start ≤ get_or heads other 0) → (get_or heads other 0 < start) ⊎ (length known.task.tries ≤ get_or heads other 0)
    by_start (inl early) = inl early
    by_start (inr later) = by_end later (cases_lt (get_or heads other 0) end)

-- the best one that is kept is a beginning
pub best_kept : {known : Known} {heads : List ℕ} {path : List Placed} {start : ℕ} {follower : Follower} (tries : List Event) (before after : Best)
    → IsWalkAt known heads path start follower → tries ≡ known.task.tries → Keeps tries path heads before after
    → IsBeginning known.task.script known.task.tries before.events.items before.rest.items
    → IsBeginning known.task.script known.task.tries after.events.items after.rest.items
best_kept {known} {heads} {path} tries before after walk tries_are keeps begins = by_length (cases_lt (length before.events.items) (length path))
  where
    by_length : (length before.events.items < length path) ⊎ (length path ≤ length before.events.items)
        → IsBeginning known.task.script known.task.tries after.events.items after.rest.items
    by_length (inl longer) = rw (keeps.taken longer) (begins_here after.rest.items walk
        (λ seat. keeps.left longer seat ∙ ap (λ l. own_events seat (drop (get_or heads seat 0) l)) tries_are))
    by_length (inr kept) =
        subst (λ (b : Best). IsBeginning known.task.script known.task.tries b.events.items b.rest.items) (sym (keeps.kept kept)) begins

-- what is placed is ruled out, where it is no order
pub itself_ruled_out : (task : Task) (longest : ℕ) (path : List Placed) → length path ≤ longest
    → (IsOrder task.script task.prefix task.tries (events_in path) → ⊥) → IsRuledOut task longest (events_in path)
itself_ruled_out task longest path longer none = record {
  short = λ left begins. omega (arith, length-map path (λ (p : Placed). p.event), longer);
  none = none;
}

-- the search went back
pub stood_back : (task : Task) (longest : ℕ) (went : Bool) (before walk : Walk) → GoesBack (record { task = task; longest = longest }) went before walk → went ≡ true
    → longest ≡ length before.best.events.items
    → IsBeginning task.script task.tries before.best.events.items before.best.rest.items → Stood task walk
stood_back task longest went before walk back is longest_is begins = record {
  walk_is = subst (λ n. IsWalk (record { task = task; longest = n }) walk)
      (longest_is ∙ ap (λ (b : Best). length b.events.items) (sym back.best)) (back.goes_on is);
  best_is = subst (λ (b : Best). IsBeginning task.script task.tries b.events.items b.rest.items) (sym back.best) begins;
}

-- there is nothing to go back to
pub without_back : (task : Task) (longest : ℕ) (went : Bool) (before walk : Walk) → GoesBack (record { task = task; longest = longest }) went before walk → went ≡ false
    → longest ≡ length before.best.events.items
    → IsBeginning task.script task.tries before.best.events.items before.best.rest.items
    → IsWithout task.script task.prefix task.tries walk.best.events.items walk.best.rest.items
without_back task longest went before walk back is longest_is begins =
    subst (λ (b : Best). IsWithout task.script task.prefix task.tries b.events.items b.rest.items) (sym back.best) (record {
      none = back.none is;
      longest = record {
        begins = begins;
        longest = λ others left other_begins. omega (arith, back.longest is others left other_begins, longest_is);
      };
    })
