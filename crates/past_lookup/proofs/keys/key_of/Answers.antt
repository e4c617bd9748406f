use Rattle.std.proofs.Common.{◌≡◌, ℕ, ◌+◌, ◌<◌, Bool, true, false, cond, List, [], ◌∷◌, take, drop, get_or, length, refl, ap, Some, None, arith}
use Rattle.std.proofs.Math.Nat.{zero-add}
use Rattle.std.proofs.lemmas.List.{length-take-le, take-append-drop, take_more}
use Rattle.std.proofs.lemmas.Option.{same_Some}
use Rattle.std.specs.List.{position_from}
use Rattle.std.specs.Prelude.{nat_lt}
use Rattle.list_laws.proofs.Options.{position-append}
use Rattle.task_base.specs.declared.entry.Entry.{Entry}
use Rattle.task_model.specs.Keys.{key_of}
use Rattle.task_model.specs.Time.{is_tick_from, tick_from}
use Rattle.past_lookup.specs.Posts.{posted}
use Rattle.past_lookup.specs.declared.posts.Post.{Post}
use Rattle.past_lookup.proofs.keys.key_of.Goals as goal

-- no tick is of the moment or a later one so far, where none was before and this entry is none
tick_later : (past : List Entry) (i : ℕ) (d : Entry) (moment : ℕ) → i < length past → tick_from (take i past) moment ≡ None
    → is_tick_from moment (get_or past i d).kind ≡ false → tick_from (take (i + 1) past) moment ≡ None
unfolding tick_from
tick_later past i d moment below none is =
    rw (take_more past i d below, position-append (λ e. is_tick_from moment e.kind) 0 (take i past) (get_or past i d ∷ []), none, is) refl

-- the first such tick is here, where none was before and this entry is one
tick_here : (past : List Entry) (i : ℕ) (d : Entry) (moment : ℕ) → i < length past → tick_from (take i past) moment ≡ None
    → is_tick_from moment (get_or past i d).kind ≡ true → tick_from past moment ≡ Some i
unfolding tick_from
tick_here past i d moment below none is =
    let test : Entry → Bool = λ e. is_tick_from moment e.kind in
    let here : position_from test 0 (take (i + 1) past) ≡ Some i =
    rw (take_more past i d below, position-append test 0 (take i past) (get_or past i d ∷ []), none, is, length-take-le i past (omega (arith, below)))
    (ap (λ n. Some n) (zero-add i)) in
    rw (← take-append-drop (i + 1) past) (rw (position-append test 0 (take (i + 1) past) (drop (i + 1) past), here) refl)

-- a post with a delay has the key that it got at the tick
key_is : (past : List Entry) (post : Post) (place : ℕ) → nat_lt 0 post.delay ≡ true → tick_from past (post.moment + post.delay) ≡ Some place
    → Some (record { place = place; ripe = post.moment + post.delay; post = post.place }) ≡ key_of past (posted post)
key_is past post place delayed is = rw (delayed, is) refl

ripe_told : (b : Bool) (m r : ℕ) → Some r ≡ cond b (Some m) None → (b ≡ true) × (r ≡ m)
ripe_told true m r is = (refl, same_Some r m is)
ripe_told false m r is = absurd cc

not_ripe : (b : Bool) (m : ℕ) → None ≡ cond b (Some m) None → b ≡ false
not_ripe true m is = absurd cc
not_ripe false m is = refl

pub loop-entry-init : goal.loop-entry-init
unfolding tick_from
loop-entry-init c = record { none_yet = refl; place_is = refl }

pub loop-entry-preserved : goal.loop-entry-preserved
loop-entry-preserved c = record {
  none_yet = tick_later c.args.past.now c.loop-entry.entry-index _ _ c.loop-entry-test.true c.loop-entry.invariant.none_yet (not_ripe _ _ c.in-None.ensures);
  place_is = omega (arith, c.loop-entry.invariant.place_is);
}

pub returns-in-Some : goal.returns-in-Some
returns-in-Some c =
    let ripe = ripe_told _ _ c.in-Some.ripe c.in-Some.ensures in
    let here = tick_here c.args.past.now c.loop-entry.entry-index _ _ c.loop-entry-test.true c.loop-entry.invariant.none_yet ripe.0 in
    rw (ripe.1, c.loop-entry.invariant.place_is) (key_is c.args.past.now c.args.post.now _ (grind arith) here)
