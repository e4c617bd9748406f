-- `live_close` meets its contract: what lies there is read out of its memory, which is room from then on, and is let go by a safe call.
use Rattle.live_c.proofs.Steps.{[], ◌∷◌, refl, ap, proved, full_share, id⊢, ftrue, fat, froom, Val, vunit, tables, WpFn, ‵, raw, ◌⊛◌, some, later, prop, ◌$◌}
use Rattle.live_c.proofs.Steps.{◌∵◌, !, qed, done, move, drop, use1, split, join, fjoin, feq_i, feq_l, pick, await, regoal, suffices, group, enter, of_opd}
use Rattle.live_c.proofs.Steps.{unit_lit, load, look, stop, no_more, and_then, returns, alloc_all, pass_all, free_all, look_at, get, through, sets, lands_as}
use Rattle.live_c.proofs.Steps.{part_out_at, reroom, unit, yes, Is, shows, lone, Ptr, RawPtr, block_ptr, lies_at, room_at, in_a_block, rawptr_vals}
use Rattle.live_c.proofs.Steps.{rawptr_Tells, plain, nothing, peeks, only, loose_lawful, calls_at, Lasts, lasts, on_entry, triple_of, framed, Stays, walk_of}
use Rattle.live_c.proofs.Steps.{stay_dropped, Goes-dropped, ends_at, the_row, the_type, slot_mir, the_loose}
use Rattle.live_request.specs.contracts.slot.Slot.close as g
use Rattle.live_request.proofs.slot.Slot.close.Met.{met}
use Rattle.live_c.specs.contracts.live_close as f
use Rattle.live_c.proofs.live_close.Statement.{statement}
use Rattle.live_c.proofs.live_close.Code as code

abbrev stayed : Stays f.ended.signature.params f.ended.kept
stayed = (stay_dropped _ yes, tt)

pub live_close_spec : {M : Type 1} → statement M
live_close_spec 𝓤 𝓛 𝓜 𝓡 wired =
    let c = f.clauses 𝓛 𝓜.mem 𝓡.returns in let W = walk_of 𝓛 f.ended stayed c in let 𝓣 = tables 𝓤 𝓛.H 𝓜 𝓡 𝓡.env in
    proved 𝓛 f.ended stayed c 𝓜 𝓡 (Goes-dropped 𝓛 0 (plain (λ _. RawPtr)) yes (λ κs x w. refl), tt)
    f.Key.name code.function (code.unfolded 𝓤 𝓛.H 𝓜 𝓡 wired)
    (λ κs. (rawptr_vals, tt)) (λ κs. (rawptr_Tells, tt)) (λ κs qs bounds a before are.
    let y : Ptr → W.Ghost = λ p. ((κs, qs, bounds, (p, tt), (rawptr_vals p, tt)), before) in
    qed 𝓛 (raw (on_entry 𝓛 f.signature κs qs a (y a.0).0.4) ∷ ‵ (lies_at the_row full_share a.0 before) ∷ []) ∵ drop ! $
    in_a_block ! a.0 (λ p. lies_at the_row full_share p before) (id⊢ 𝓤 _) (λ b o e.
    regoal ! (λ p. prop (WpFn 𝓤 𝓛.H 𝓣.C 𝓣.Λ code.function (rawptr_vals p) (W.post (y p)))) e refl $
    use1 𝓛 (some (λ (w : Val). ‵ (fat full_share slot_mir b o w)
    ⊛ ‵ (the_row.own_val before (w ∷ [])))) (part_out_at 𝓛 the_row refl full_share before b o slot_mir refl) $
    pick ! (λ w. split ! $ move ! (1 ∷ []) $ peeks ! the_row (Is the_row) (shows 𝓛 the_row) before (w ∷ []) (λ is.
    let ok = ((loose_lawful the_type the_loose 𝓛).typed before (w ∷ []) is).0 in
    -- [what it owns; its cell; the locals]
    enter ! _ _ _ _ _ $ alloc_all ! (λ l. pass_all ! refl ((tt, tt), tt) $
    sets ! (of_opd ! (get ! refl)) refl (tt, tt) $
    sets ! (of_opd ! (load ! (through ! refl (stop !)) (look ! 1 refl))) refl ok $
    let G = triple_of 𝓛 g.signature (g.spec 𝓛 𝓜.mem 𝓡.returns) in
    let z : G.Ghost = ((tt, tt, tt, (before, tt), (w ∷ [], tt)), tt) in
    nothing ! $ move ! (1 ∷ 0 ∷ []) $ fjoin ! $ nothing ! $ join ! $ nothing ! $ move ! (1 ∷ 0 ∷ []) $ join ! $ use1 𝓛 (raw (G.pre z)) (id⊢ 𝓤 (G.pre z)) $
    calls_at ! (framed 𝓤 𝓛.H 𝓜 𝓣) G (met 𝓤 𝓛 𝓜 𝓡 (code.calls-live_request::slot::Slot::close 𝓡.env wired)) z (and_then ! (get ! refl) (no_more !)) (λ v.
    use1 𝓛 (later (some (λ (u : Unit {0}). (‵ ftrue ⊛ ‵ (unit.own_val u (v ∷ []))) ⊛
    some (λ (ws : Lasts g.ended z.0.0 z.0.3). ‵ (lasts g.ended z.0.0 z.0.3 ws) ⊛ ‵ ftrue)))) (id⊢ 𝓤 _) $
    await ! tt $ pick ! (λ u. split ! $ split ! $ drop ! $ feq_l ! (λ is_unit. pick ! (λ ws. split ! $ drop ! $ drop ! $
    lands_as ! (ap only is_unit) refl (tt, tt) $
    sets ! (of_opd ! (unit_lit !)) refl (tt, tt) $
    returns ! (look_at ! 0 refl) $ free_all ! refl $
    use1 𝓛 (‵ (froom slot_mir b o)) (𝓛.laws.at_room slot_mir b o w) $
    use1 𝓛 (‵ (room_at the_row (block_ptr b o))) (reroom 𝓛 slot_mir (lone the_row.mir) refl b o) $
    suffices ! _ (ends_at 𝓛 f.ended stayed c (y (block_ptr b o)) vunit tt (tt, tt) (tt, tt)) $
    feq_i ! _ (vunit ∷ []) _ refl $ nothing ! $ nothing ! $ join ! $ nothing ! $ group ! 3 $ done !)))))))))
