-- `live_open` meets its contract: a slot with no environment is moved into the room, and is lent for the call that opens a plan in it.
use Rattle.live_c.proofs.Steps.{◌≡◌, ℕ, [], ◌∷◌, ◌++◌, refl, w32, MutBor, proved, heap_val, heap_Tells, heap_row, full_share, id⊢, sep, GName, ftrue, froom}
use Rattle.live_c.proofs.Steps.{flft, flent, named, vptr, fact, tables, WpFn, sem, ‵, raw, ◌⊛◌, some, later, prop, ◌$◌, ◌∵◌, !, qed, done, move, keep, drop}
use Rattle.live_c.proofs.Steps.{use1, use2, use3, split, join, fsplit, fjoin, pick, await, regoal, suffices, frame, group, show, enter, of_opd, addr, init}
use Rattle.live_c.proofs.Steps.{stop, no_more, and_then, assigns, returns, alloc_all, pass_all, free_all, look_at, get, through, sets, lands_as, lft_new}
use Rattle.live_c.proofs.Steps.{lft_end, Body, part_in_at, reroom, u8, u32, yes, Is, shows, lends_ref, ref_back, lone, mem, uint_Lawful, Ptr, RawPtr}
use Rattle.live_c.proofs.Steps.{block_ptr, lies_at, room_at, in_a_block, rawptr_vals, rawptr_Tells, MutRef, mut_vals, mut_Tells, plain, shr_slice_of}
use Rattle.live_c.proofs.Steps.{shr_slice_Lawful, shr_slice_Tells, shr_slice_vals, ShrSlice, nothing, heard, peeks, loose_lawful, calls_at, lasts, triple_of}
use Rattle.live_c.proofs.Steps.{framed, Stays, walk_of, says, stay_dropped, Goes-dropped, gave_ref, Goes-gave_ref, ends_at, Slot, the_row, the_type, slot_mir}
use Rattle.live_c.proofs.Steps.{the_loose, IsSlotOpened}
use Rattle.live_request.specs.contracts.opened.Opened.{the_row as opened_row}
use Rattle.live_request.specs.declared.opened.Opened.{Opened}
use Rattle.live_request.specs.contracts.slot.Slot.empty as g
use Rattle.live_request.proofs.slot.Slot.empty.Met.{met as empty_met}
use Rattle.live_request.specs.contracts.slot.Slot.open as h
use Rattle.live_request.proofs.slot.Slot.open.Met.{met as open_met}
use Rattle.std.specs.Prelude.{None}
use Rattle.live_c.specs.contracts.live_open as f
use Rattle.live_c.proofs.live_open.Statement.{statement}
use Rattle.live_c.proofs.live_open.Code as code

abbrev stayed : Stays f.ended.signature.params f.ended.kept
stayed = (stay_dropped _ yes, (stay_dropped _ yes, (stay_dropped _ yes, (gave_ref (1 ∷ []) tt (plain (λ _. opened_row)), tt))))

pub live_open_spec : {M : Type 1} → statement M
live_open_spec 𝓤 𝓛 𝓜 𝓡 wired =
    let c = f.clauses 𝓛 𝓜.mem 𝓡.returns in let W = walk_of 𝓛 f.ended stayed c in let 𝓣 = tables 𝓤 𝓛.H 𝓜 𝓡 𝓡.env in
    proved 𝓛 f.ended stayed c 𝓜 𝓡 (
      Goes-dropped 𝓛 2 (plain (λ _. heap_row)) yes (λ κs x w. refl),
      (
        Goes-dropped 𝓛 2 (plain (λ _. RawPtr)) yes (λ κs x w. refl),
        (Goes-dropped 𝓛 2 (shr_slice_of (0 ∷ []) tt (plain (λ _. u8))) yes (λ κs x w. refl), (Goes-gave_ref 𝓛 2 1 tt (plain (λ _. opened_row)), tt)),
      ),
    )
    f.Key.name code.function (code.unfolded 𝓤 𝓛.H 𝓜 𝓡 wired)
    (λ κs. ((λ _. heap_val ∷ []), (rawptr_vals, (shr_slice_vals, (mut_vals, tt)))))
    (λ κs. (heap_Tells, (rawptr_Tells, (shr_slice_Tells (named 0) κs.0 u8, (mut_Tells (named 1) κs.1.0 opened_row, tt))))) (λ κs qs bounds a _ are.
    let plan = a.1.1.0 in let told = a.1.1.1.0 in
    let y : Ptr → W.Ghost = λ p. (
      (
        κs,
        qs,
        bounds,
        (a.0, (p, (plan, (told, tt)))),
        (
          heap_val ∷ [],
          (
            rawptr_vals p,
            (
              shr_slice_vals plan,
              (mut_vals told, tt),
            ),
          ),
        ),
      ),
      tt,
    ) in
    qed 𝓛 (((‵ (flft κs.0 qs.0) ⊛ ‵ (flft κs.1.0 qs.1.0) ⊛ ‵ ftrue) ⊛ ‵ (heap_row.own_val a.0 (heap_val ∷ [])) ⊛ ‵ (RawPtr.own_val a.1.0 (rawptr_vals a.1.0))
    ⊛ ‵ ((ShrSlice (named 0) κs.0 u8).own_val plan (shr_slice_vals plan)) ⊛ ‵ ((MutRef (named 1) κs.1.0 opened_row).own_val told (mut_vals told)) ⊛ ‵ ftrue)
    ∷ ‵ (room_at the_row a.1.0) ∷ []) ∵
    split ! $ split ! $ move ! (1 ∷ []) $ split ! $ move ! (3 ∷ []) $ split ! $ move ! (1 ∷ []) $ split ! $ move ! (1 ∷ []) $ split ! $ move ! (1 ∷ []) $
    split ! $
    keep ! (8 ∷ 7 ∷ 5 ∷ 4 ∷ 2 ∷ 0 ∷ []) $
    in_a_block ! a.1.0 (λ p. room_at the_row p) (id⊢ 𝓤 _) (λ b o e.
    regoal ! (λ p. prop (WpFn 𝓤 𝓛.H 𝓣.C 𝓣.Λ code.function (heap_val ∷ rawptr_vals p ++ shr_slice_vals plan ++ mut_vals told) (W.post (y p)))) e refl $
    use1 𝓛 (‵ (froom slot_mir b o)) (reroom 𝓛 (lone the_row.mir) slot_mir refl b o) $
    -- [the room; the plan's token; the answer's; the allocator; the plan; the answer; the locals]
    enter ! _ _ _ _ _ $ alloc_all ! (λ l. pass_all ! refl (
      (tt, ((tt, tt), tt)),
      (
        (tt, tt),
        (((shr_slice_Lawful 𝓛 (named 0) κs.0 u8).typed plan _ are.1.1.0).0, ((tt, tt), tt)),
      ),
    ) $
    sets ! (of_opd ! (get ! refl)) refl (tt, tt) $
    let G = triple_of 𝓛 g.signature (g.spec 𝓛 𝓜.mem 𝓡.returns) in
    let z : G.Ghost = ((tt, tt, tt, tt, tt), tt) in
    nothing ! $ nothing ! $ join ! $ nothing ! $ move ! (1 ∷ 0 ∷ []) $ join ! $ use1 𝓛 (raw (G.pre z)) (id⊢ 𝓤 (G.pre z)) $
    calls_at ! (framed 𝓤 𝓛.H 𝓜 𝓣) G (empty_met 𝓤 𝓛 𝓜 𝓡 (code.calls-live_request::slot::Slot::empty 𝓡.env wired)) z (no_more !) (λ w.
    use1 𝓛 (later (some (λ (made : Slot). (‵ ftrue ⊛ ‵ (the_row.own_val made (w ∷ []))) ⊛
    some (λ (ws : Unit {0}). ‵ (lasts g.ended z.0.0 z.0.3 ws) ⊛ raw (fact 𝓤 (made.live ≡ None)))))) (id⊢ 𝓤 _) $
    await ! tt $ pick ! (λ made. split ! $ split ! $ drop ! $ move ! (1 ∷ []) $ pick ! (λ ws. split ! $ drop ! $ drop ! $
    -- [the empty slot; the room; the tokens and what was passed; the locals]
    peeks ! the_row (Is the_row) (shows 𝓛 the_row) made (w ∷ []) (λ is. let ok = ((loose_lawful the_type the_loose 𝓛).typed made (w ∷ []) is).0 in
    lands_as ! refl refl ok $
    assigns ! (of_opd ! (get ! refl)) (through ! refl (stop !)) (init ! 1 refl ok) $
    move ! (1 ∷ 0 ∷ []) $ use2 𝓛 (‵ ((mem the_row).own_at made b o)) (part_in_at 𝓛 the_row refl full_share made b o slot_mir refl w) $
    sets ! (addr ! (through ! refl (stop !))) refl (tt, tt) $
    sets ! (addr ! (through ! refl (stop !))) refl (tt, tt) $
    lft_new ! tt (λ α. move ! (1 ∷ []) $
    use1 𝓛 (later (some (λ (γ : GName). ‵ ((MutRef (named 0) (α ∷ []) the_row).own_val (record { ref_ptr = (b, o); ghost_name = γ; now = made })
    (vptr b o ∷ [])) ⊛ ‵ (flent (α ∷ []) (Body (mem the_row) b o γ)))))
    (lends_ref 𝓛 the_row (named 0) (α ∷ []) made b o) $ await ! tt $ pick ! (λ γ. split ! $
    -- [the loan; what the lender keeps; the token of α; the plan's; the answer's; the allocator; the plan; the answer; the locals]
    let r : MutBor Slot = record { ref_ptr = (b, o); ghost_name = γ; now = made } in
    let G' = triple_of 𝓛 h.signature (h.spec 𝓛 𝓜.mem 𝓡.returns) in
    let z' : G'.Ghost = (
      (
        (α ∷ [], (κs.0, (κs.1.0, tt))),
        (full_share, (qs.0, (qs.1.0, tt))),
        tt,
        (r, (a.0, (plan, (told, tt)))),
        (vptr b o ∷ [], (heap_val ∷ [], (shr_slice_vals plan, (mut_vals told, tt)))),
      ),
      tt,
    ) in
    nothing ! $ move ! (8 ∷ 0 ∷ []) $ fjoin ! $ move ! (7 ∷ 0 ∷ []) $ fjoin ! $ move ! (6 ∷ 0 ∷ []) $ fjoin ! $ move ! (1 ∷ 0 ∷ []) $ fjoin ! $
    nothing ! $ move ! (5 ∷ 0 ∷ []) $ join ! $ move ! (4 ∷ 0 ∷ []) $ join ! $ move ! (3 ∷ 0 ∷ []) $ join ! $ join ! $
    nothing ! $ move ! (1 ∷ 0 ∷ []) $ join ! $ use1 𝓛 (raw (G'.pre z')) (id⊢ 𝓤 (G'.pre z')) $
    calls_at ! (framed 𝓤 𝓛.H 𝓜 𝓣) G' (open_met 𝓤 𝓛 𝓜 𝓡 (code.calls-live_request::slot::Slot::open 𝓡.env wired)) z'
    (and_then ! (get ! refl) (and_then ! (get ! refl) (and_then ! (get ! refl) (and_then ! (get ! refl) (no_more !))))) (λ v.
    use1 𝓛 (later (some (λ (u : ℕ). ((‵ (flft (α ∷ []) full_share) ⊛ ‵ (flft κs.0 qs.0) ⊛ ‵ (flft κs.1.0 qs.1.0) ⊛ ‵ ftrue) ⊛ ‵ (u32.own_val u (v ∷ []))) ⊛
    some (λ (ws' : Slot × (Unit {0} × (Unit {0} × (Opened × Unit {0})))). ‵ (lasts h.ended z'.0.0 z'.0.3 ws') ⊛
    raw (fact 𝓤 (IsSlotOpened plan.now ws'.0 ws'.1.1.1.0 u)))))) (id⊢ 𝓤 _) $
    await ! tt $ pick ! (λ u. split ! $ split ! $ split ! $ lft_end ! tt $
    move ! (2 ∷ []) $ peeks ! u32 (Is u32) (shows 𝓛 u32) u (v ∷ []) (λ is_u. lands_as ! refl refl ((uint_Lawful 𝓛 w32).typed u _ is_u).0 $
    move ! (3 ∷ []) $ pick ! (λ ws'. split ! $ move ! (1 ∷ []) $ heard ! _ (λ opens.
    fsplit ! $ fsplit ! $ move ! (2 ∷ []) $ fsplit ! $ move ! (1 ∷ []) $ fsplit ! $ move ! (1 ∷ []) $ fsplit ! $
    -- [what the answer leaves; nothing, three times; the loan's last value; its borrow; the result; α is over; the caller's tokens; what the lender keeps;
    -- the locals]
    move ! (7 ∷ 9 ∷ 4 ∷ []) $ use3 𝓛 (later (‵ ((mem the_row).own_at ws'.0 b o))) (ref_back 𝓛 the_row (α ∷ []) γ ws'.0 b o) $ await ! tt $
    returns ! (look_at ! 0 refl) $ free_all ! refl $ keep ! (1 ∷ 7 ∷ 6 ∷ 0 ∷ []) $
    suffices ! _ (ends_at 𝓛 f.ended stayed c (y (block_ptr b o)) v u (tt, (tt, (tt, (ws'.1.1.1.0, tt)))) (tt, (tt, (tt, (tt, tt))))) $
    nothing ! $ move ! (1 ∷ 0 ∷ []) $ fjoin ! $ nothing ! $ fjoin ! $ nothing ! $ fjoin ! $ nothing ! $ fjoin ! $
    move ! (1 ∷ 0 ∷ 2 ∷ []) $ group ! 3 $ frame ! $
    show ! (λ (slot : Slot). sep 𝓤 (sem 𝓛 (lies_at the_row full_share (block_ptr b o) slot)) (fact 𝓤 (IsSlotOpened plan.now slot ws'.1.1.1.0 u))) ws'.0 $
    says ! opens $ done !))))))))))))))
