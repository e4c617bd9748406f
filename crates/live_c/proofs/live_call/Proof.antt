-- `live_call` meets its contract: what lies there is lent for a lifetime that is made for the safe call, and comes back once it is ended. The caller's two
-- references are passed on.
use Rattle.live_c.proofs.Steps.{[], ◌∷◌, ◌++◌, refl, ap, MutBor, proved, full_share, id⊢, sep, emp, GName, ftrue, flft, flent, named, vunit, vptr, fact}
use Rattle.live_c.proofs.Steps.{fact_i, tables, WpFn, sem, ‵, raw, ◌⊛◌, some, later, prop, ◌$◌, ◌∵◌, !, qed, done, move, keep, use0, use1, use3, split, join}
use Rattle.live_c.proofs.Steps.{fsplit, fjoin, feq_i, feq_l, pick, await, regoal, suffices, frame, group, show, enter, of_opd, unit_lit, addr, stop, no_more}
use Rattle.live_c.proofs.Steps.{and_then, returns, alloc_all, pass_all, free_all, look_at, get, through, sets, lands_as, lft_new, lft_end, Body, unit, yes}
use Rattle.live_c.proofs.Steps.{lends_ref, ref_back, mem, Ptr, RawPtr, block_ptr, lies_at, in_a_block, rawptr_vals, rawptr_Tells, MutRef, ShrRef, mut_vals}
use Rattle.live_c.proofs.Steps.{shr_vals, mut_Tells, shr_Tells, plain, shr_ref_to, nothing, heard, only, calls_at, lasts, triple_of, framed, Stays, walk_of}
use Rattle.live_c.proofs.Steps.{says, stay_dropped, Goes-dropped, gave_ref, Goes-gave_ref, ends_at, Slot, the_row, IsCalled, Stands}
use Rattle.live_request.specs.declared.answer.Answer.{Answer}
use Rattle.live_request.specs.contracts.answer.Answer.{the_row as answer_row}
use Rattle.live_request.specs.contracts.request.Request.{the_row as request_row}
use Rattle.live_request.specs.contracts.slot.Slot.call as g
use Rattle.live_request.proofs.slot.Slot.call.Met.{met}
use Rattle.live_c.specs.contracts.live_call as f
use Rattle.live_c.proofs.live_call.Statement.{statement}
use Rattle.live_c.proofs.live_call.Code as code

abbrev stayed : Stays f.ended.signature.params f.ended.kept
stayed = (stay_dropped _ yes, (stay_dropped _ yes, (gave_ref (1 ∷ []) tt (plain (λ _. answer_row)), tt)))

pub live_call_spec : {M : Type 1} → statement M
live_call_spec 𝓤 𝓛 𝓜 𝓡 wired =
    let c = f.clauses 𝓛 𝓜.mem 𝓡.returns in let W = walk_of 𝓛 f.ended stayed c in let 𝓣 = tables 𝓤 𝓛.H 𝓜 𝓡 𝓡.env in
    proved 𝓛 f.ended stayed c 𝓜 𝓡 (
      Goes-dropped 𝓛 2 (plain (λ _. RawPtr)) yes (λ κs x w. refl),
      (Goes-dropped 𝓛 2 (shr_ref_to (0 ∷ []) tt (plain (λ _. request_row))) yes (λ κs x w. refl), (Goes-gave_ref 𝓛 2 1 tt (plain (λ _. answer_row)), tt)),
    )
    f.Key.name code.function (code.unfolded 𝓤 𝓛.H 𝓜 𝓡 wired)
    (λ κs. (rawptr_vals, (shr_vals, (mut_vals, tt)))) (λ κs. (
      rawptr_Tells,
      (
        shr_Tells (named 0) κs.0 request_row,
        (mut_Tells (named 1) κs.1.0 answer_row, tt),
      ),
    )) (λ κs qs bounds a before are.
    let asked = a.1.0 in let told = a.1.1.0 in
    let y : Ptr → W.Ghost = λ p. ((κs, qs, bounds, (p, (asked, (told, tt))), (rawptr_vals p, (shr_vals asked, (mut_vals told, tt)))), before) in
    qed 𝓛 (((‵ (flft κs.0 qs.0) ⊛ ‵ (flft κs.1.0 qs.1.0) ⊛ ‵ ftrue) ⊛ ‵ (RawPtr.own_val a.0 (rawptr_vals a.0))
    ⊛ ‵ ((ShrRef (named 0) κs.0 request_row).own_val asked (shr_vals asked)) ⊛ ‵ ((MutRef (named 1) κs.1.0 answer_row).own_val told (mut_vals told))
    ⊛ ‵ ftrue) ∷ (‵ (lies_at the_row full_share a.0 before) ⊛ raw (fact 𝓤 (Stands before))) ∷ []) ∵
    move ! (1 ∷ []) $ split ! $ move ! (1 ∷ []) $ heard ! _ (λ stands. move ! (1 ∷ []) $
    split ! $ split ! $ move ! (1 ∷ []) $ split ! $ move ! (3 ∷ []) $ split ! $ move ! (1 ∷ []) $ split ! $ move ! (1 ∷ []) $ split ! $
    keep ! (7 ∷ 6 ∷ 4 ∷ 2 ∷ 0 ∷ []) $
    in_a_block ! a.0 (λ p. lies_at the_row full_share p before) (id⊢ 𝓤 _) (λ b o e.
    regoal ! (λ p. prop (WpFn 𝓤 𝓛.H 𝓣.C 𝓣.Λ code.function (rawptr_vals p ++ shr_vals asked ++ mut_vals told) (W.post (y p)))) e refl $
    enter ! _ _ _ _ _ $ alloc_all ! (λ l. pass_all ! refl ((tt, tt), ((tt, tt), ((tt, tt), tt))) $
    sets ! (of_opd ! (get ! refl)) refl (tt, tt) $
    sets ! (addr ! (through ! refl (stop !))) refl (tt, tt) $
    sets ! (addr ! (through ! refl (stop !))) refl (tt, tt) $
    lft_new ! tt (λ α. move ! (1 ∷ []) $
    use1 𝓛 (later (some (λ (γ : GName). ‵ ((MutRef (named 0) (α ∷ []) the_row).own_val (record { ref_ptr = (b, o); ghost_name = γ; now = before })
    (vptr b o ∷ [])) ⊛ ‵ (flent (α ∷ []) (Body (mem the_row) b o γ)))))
    (lends_ref 𝓛 the_row (named 0) (α ∷ []) before b o) $ await ! tt $ pick ! (λ γ. split ! $
    -- [the loan; what the lender keeps; the token of α; the request's; the answer's; the request; the answer; the locals]
    let r : MutBor Slot = record { ref_ptr = (b, o); ghost_name = γ; now = before } in
    let G = triple_of 𝓛 g.signature (g.spec 𝓛 𝓜.mem 𝓡.returns) in
    let z : G.Ghost = (
      (
        (α ∷ [], (κs.0, (κs.1.0, tt))),
        (full_share, (qs.0, (qs.1.0, tt))),
        tt,
        (r, (asked, (told, tt))),
        (
          vptr b o ∷ [],
          (
            shr_vals asked,
            (mut_vals told, tt),
          ),
        ),
      ),
      tt,
    ) in
    nothing ! $ move ! (7 ∷ 0 ∷ []) $ fjoin ! $ move ! (6 ∷ 0 ∷ []) $ fjoin ! $ move ! (1 ∷ 0 ∷ []) $ fjoin ! $
    nothing ! $ move ! (5 ∷ 0 ∷ []) $ join ! $ move ! (4 ∷ 0 ∷ []) $ join ! $ move ! (3 ∷ 0 ∷ []) $ join ! $ join ! $
    use0 𝓛 (raw (fact 𝓤 (Stands before))) (fact_i 𝓤 (Stands before) (emp 𝓤) stands) $ move ! (1 ∷ 0 ∷ []) $ join ! $
    use1 𝓛 (raw (G.pre z)) (id⊢ 𝓤 (G.pre z)) $
    calls_at ! (framed 𝓤 𝓛.H 𝓜 𝓣) G (met 𝓤 𝓛 𝓜 𝓡 (code.calls-live_request::slot::Slot::call 𝓡.env wired)) z (and_then ! (get ! refl)
    (and_then ! (get ! refl) (and_then ! (get ! refl) (no_more !)))) (λ v.
    use1 𝓛 (later (some (λ (u : Unit {0}). ((‵ (flft (α ∷ []) full_share) ⊛ ‵ (flft κs.0 qs.0) ⊛ ‵ (flft κs.1.0 qs.1.0) ⊛ ‵ ftrue)
    ⊛ ‵ (unit.own_val u (v ∷ []))) ⊛
    some (λ (ws : Slot × (Unit {0} × (Answer × Unit {0}))). ‵ (lasts g.ended z.0.0 z.0.3 ws) ⊛
    raw (fact 𝓤 (IsCalled asked.now before ws.0 ws.1.1.0)))))) (id⊢ 𝓤 _) $
    await ! tt $ pick ! (λ u. split ! $ split ! $ split ! $ lft_end ! tt $ move ! (2 ∷ []) $ feq_l ! (λ is_unit.
    lands_as ! (ap only is_unit) refl (tt, tt) $
    move ! (2 ∷ []) $ pick ! (λ ws. split ! $ move ! (1 ∷ []) $ heard ! _ (λ gives.
    fsplit ! $ fsplit ! $ move ! (2 ∷ []) $ fsplit ! $ move ! (1 ∷ []) $ fsplit ! $
    -- [what the answer leaves; nothing; nothing; the loan's last value; its borrow; α is over; the caller's tokens; what the lender keeps; the locals]
    move ! (5 ∷ 7 ∷ 3 ∷ []) $ use3 𝓛 (later (‵ ((mem the_row).own_at ws.0 b o))) (ref_back 𝓛 the_row (α ∷ []) γ ws.0 b o) $ await ! tt $
    sets ! (of_opd ! (unit_lit !)) refl (tt, tt) $
    returns ! (look_at ! 0 refl) $ free_all ! refl $ keep ! (1 ∷ 5 ∷ 0 ∷ []) $
    suffices ! _ (ends_at 𝓛 f.ended stayed c (y (block_ptr b o)) vunit tt (tt, (tt, (ws.1.1.0, tt))) (tt, (tt, (tt, tt)))) $
    nothing ! $ move ! (1 ∷ 0 ∷ []) $ fjoin ! $ nothing ! $ fjoin ! $ nothing ! $ fjoin ! $
    feq_i ! _ (vunit ∷ []) _ refl $ move ! (2 ∷ 1 ∷ 0 ∷ []) $ group ! 3 $ frame ! $
    show ! (λ (after : Slot). sep 𝓤 (sem 𝓛 (lies_at the_row full_share (block_ptr b o) after)) (fact 𝓤 (IsCalled asked.now before after ws.1.1.0))) ws.0 $
    says ! gives $ done !)))))))))))
