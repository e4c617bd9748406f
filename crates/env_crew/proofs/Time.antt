-- The moments of the driver's ticks are those of the clock's readings.
-- Cited by `drive`, `tick`, `Done`, `Joins`, `Pump`.
use Rattle.std.proofs.Common.{◌≡◌, ℕ, ◌+◌, Bool, true, false, cond, eqb, List, [], ◌∷◌, ◌++◌}
use Rattle.std.proofs.Common.{length, take, get_or, refl, sym, ap, ◌∙◌, append-nil, Option, Some, None, arith}
use Rattle.std.specs.Prelude.{IfSome, fold, nat_le}
use Rattle.std.specs.List.{AllByRecursion, cons_option}
use Rattle.std.proofs.lemmas.Bool.{and_parts}
use Rattle.std.proofs.lemmas.List.{take_more, take_all, length-append, length-take-le, get_or-take}
use Rattle.std.proofs.lemmas.List.Elements.{filter_map-append}
use Rattle.task_base.specs.Plan.{Plan}
use Rattle.task_base.specs.declared.entry.Entry.{Entry}
use Rattle.task_base.specs.declared.entry.Kind.{Kind}
use Rattle.task_base.specs.declared.entry.Kind.TheVariants as kinds
use Rattle.task_base.specs.declared.limits.TheConstants.{LAST_MOMENT}
use Rattle.task_model.specs.Orders.{moment_of}
use Rattle.task_model.specs.Time.{now_of, now_after}
use Rattle.task_model.proofs.Growth.{now_of_push}
use Rattle.env_io.specs.Readings.{BeginsWith}
use Rattle.hist_model.specs.Allowed.{by_script, may_come}
use Rattle.hist_model.specs.Script.{is_wanted}
use Rattle.hist_model.specs.Legal.{IsLegal}
use Rattle.hist_model.specs.Moments.{moment_behind, moments_of, last_of, ticks_of}
use Rattle.hist_model.specs.Views.{own_entries}
use Rattle.hist_model.proofs.Laws.Legal.{entry_induction}
use Rattle.hist_model.proofs.Laws.Moments.{one_more}
use Rattle.hist_model.proofs.Laws.Own.{own_entries_push}
use Rattle.env_crew.specs.Desk.{DeskView, mine, with_own}
use Rattle.env_crew.specs.Driving.{KeepsTime}

-- before the first tick
pub time_starts : (told : ℕ → Option ℕ) → KeepsTime told told []
unfolding moments_of
time_starts told = record { moments = at_first; behind = λ k. ap told (omega arith) }
  where
    at_first : (readings : List ℕ) → BeginsWith told readings → length readings ≡ 0 → [] ≡ moments_of readings
    at_first [] begins none = refl
    at_first (r ∷ readings) begins none = absurd (omega (arith, none))

-- entries that are no ticks
pub no_ticks : (own more : List Entry) → AllByRecursion (λ e. moment_of e.kind ≡ None) more → ticks_of (own ++ more) ≡ ticks_of own
no_ticks own more none = filter_map-append (λ (e : Entry). moment_of e.kind) own more ∙ ap (λ ticks. ticks_of own ++ ticks) (nothing more none)
    ∙ append-nil (ticks_of own)
  where
    nothing : (more : List Entry) → AllByRecursion (λ e. moment_of e.kind ≡ None) more → ticks_of more ≡ []
    nothing [] none = refl
    nothing (e ∷ more) none = rw none.0 (nothing more none.1)

-- they leave the time that is kept
pub time_stays : (told now : ℕ → Option ℕ) (old new : List Entry) → ticks_of new ≡ ticks_of old → KeepsTime told now old → KeepsTime told now new
time_stays told now old new same keeps = record { moments = rw same keeps.moments; behind = rw same keeps.behind }

-- the last of the ticks' moments is the moment that the history has come to
last_is_now : (past : List Entry) → last_of (ticks_of past) ≡ now_of past
unfolding now_of
last_is_now past = from 0 past
  where
    from : (before : ℕ) (past : List Entry) → fold (λ last now. now) before (ticks_of past) ≡ fold (λ now e. now_after now e.kind) before past
    from before [] = refl
    from before (e ∷ past) = by_kind e.kind (λ now. from now past)
      where
        by_kind : (kind : Kind) → ((now : ℕ) → fold (λ last now. now) now (ticks_of past) ≡ fold (λ now e. now_after now e.kind) now past)
            → fold (λ last now. now) before (cons_option (moment_of kind) (ticks_of past))
            ≡ fold (λ now e. now_after now e.kind) (now_after before kind) past
        by_kind (kinds.Tick now) next = next now
        by_kind kind next = next before

-- one more tick, of the next reading
time_ticks : (told now next : ℕ → Option ℕ) (past : List Entry) (seat reading : ℕ) → IfSome (now 0) (λ first. reading ≡ first)
    → ((k : ℕ) → next k ≡ now (k + 1)) → KeepsTime told now past
    → KeepsTime told next (past ++ (record { seat = seat; kind = kinds.Tick (moment_behind (now_of past) reading) }) ∷ [])
time_ticks told now next past seat reading first later keeps = record { moments = moments; behind = behind }
  where
    n : ℕ
    n = length (ticks_of past)

    e : Entry
    e = record { seat = seat; kind = kinds.Tick (moment_behind (now_of past) reading) }

    one : ticks_of (past ++ e ∷ []) ≡ ticks_of past ++ moment_behind (now_of past) reading ∷ []
    one = filter_map-append (λ (x : Entry). moment_of x.kind) past (e ∷ [])

    longer : length (ticks_of (past ++ e ∷ [])) ≡ n + 1
    longer = ap length one ∙ length-append (ticks_of past) (moment_behind (now_of past) reading ∷ [])

    behind : (k : ℕ) → next k ≡ told (length (ticks_of (past ++ e ∷ [])) + k)
    behind k = later k ∙ keeps.behind (k + 1) ∙ ap told (omega (arith, longer))

    read : (r : ℕ) → told n ≡ Some r → reading ≡ r
    read r is = rw (keeps.behind 0 ∙ ap told (omega arith) ∙ is) at first

    moments : (readings : List ℕ) → BeginsWith told readings → length readings ≡ length (ticks_of (past ++ e ∷ []))
        → ticks_of (past ++ e ∷ []) ≡ moments_of readings
    moments readings begins count =
        let long : length readings ≡ n + 1 = count ∙ longer in
        let front = take n readings in
        let parted : readings ≡ front ++ get_or readings n 0 ∷ [] = sym (take_all (n + 1) readings (omega (arith, long)))
        ∙ take_more readings n 0 (omega (arith, long)) in
        let few : length front ≡ n = length-take-le n readings (omega (arith, long)) in
        let known : ticks_of past ≡ moments_of front =
        keeps.moments front (λ k less. begins k (omega (arith, less, few, long)) ∙ ap Some (sym (get_or-take n readings k 0 (omega (arith, less, few))))) few in
        let last : reading ≡ get_or readings n 0 = read (get_or readings n 0) (begins n (omega (arith, long))) in
        one ∙ rw (parted, one_more front (get_or readings n 0), ← known, last_is_now past, ← last) refl

-- an entry that is no tick leaves the moment, whether it is the driver's or not
now_if : (own : List Entry) (e : Entry) (b : Bool) → now_after (now_of own) e.kind ≡ now_of own → now_of (cond b (own ++ e ∷ []) own) ≡ now_of own
now_if own e true stays = now_of_push own e ∙ stays
now_if own e false stays = refl

-- and a tick is the driver's
now_step : (script : Plan) (past : List Entry) (seat : ℕ) (kind : Kind) → may_come script past seat kind ≡ true → now_of (own_entries 0 past) ≡ now_of past
    → now_of (cond (eqb seat 0) (own_entries 0 past ++ record { seat = seat; kind = kind } ∷ []) (own_entries 0 past)) ≡ now_after (now_of past) kind
unfolding may_come by_script
now_step script past seat (kinds.Tick now) may same =
    let first = and_parts _ (nat_le now LAST_MOMENT) may in
    let second = and_parts (by_script script past seat (kinds.Tick now)) (nat_le (now_of past) now) first.0 in
    let driver = and_parts (eqb seat 0) (is_wanted script (own_entries 0 past) (kinds.Tick now)) second.0 in
    rw driver.0 (now_of_push (own_entries 0 past) (record { seat = seat; kind = kinds.Tick now }))
now_step script past seat kind may same = now_if (own_entries 0 past) (record { seat = seat; kind = kind }) (eqb seat 0) refl ∙ same

-- the driver's own entries tell the moment that a legal history has come to
own_now : (script : Plan) (past : List Entry) → IsLegal script past → now_of (own_entries 0 past) ≡ now_of past
unfolding now_of
own_now script = entry_induction script (λ past. now_of (own_entries 0 past) ≡ now_of past) refl (λ past e known may same.
    ap now_of (own_entries_push past e 0) ∙ now_step script past e.seat e.kind may same ∙ sym (now_of_push past e))

-- one more tick of the driver, at the moment that the next reading becomes behind a legal history with no other entries of its own
pub time_on : (told now next : ℕ → Option ℕ) (old new : DeskView) (past : List Entry) (reading moment : ℕ) → old.seat ≡ 0
    → IfSome (now 0) (λ first. reading ≡ first) → ((k : ℕ) → next k ≡ now (k + 1)) → IsLegal old.script past → own_entries old.seat past ≡ mine old
    → moment ≡ moment_behind (now_of past) reading → mine new ≡ with_own old (kinds.Tick moment)
    → KeepsTime told now (mine old) → KeepsTime told next (mine new)
time_on told now next old new past reading moment driver first later legal own is entered keeps =
    rw (entered, is, same) (time_ticks told now next (mine old) old.seat reading first later keeps)
  where
    same : now_of past ≡ now_of (mine old)
    same = sym (own_now old.script past legal) ∙ ap (λ n. now_of (own_entries n past)) (sym driver) ∙ ap now_of own
