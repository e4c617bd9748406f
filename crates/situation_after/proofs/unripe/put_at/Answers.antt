use Rattle.std.proofs.Common.{◌≡◌, ap, ◌∙◌}
use Rattle.std.specs.List.{insert, prefix_len}
use Rattle.std.specs.Prelude.{nat_le}
use Rattle.situation.specs.Situation.{Unripe}
use Rattle.situation_after.proofs.Places.{put_at}
use Rattle.situation_after.proofs.unripe.put_at.Goals as goal

pub returns : goal.returns
returns c =
    let ripe : c.u.inside.ripe ≡ c.args.u.ripe = ap (λ (u : Unripe). u.ripe) c.u.view_is in
    let place : c.ripe_by-place.result ≡ prefix_len (λ v. nat_le v.ripe c.args.u.ripe) c.args.unripe.items =
    c.ripe_by-place.ensures.place ∙ ap (λ moment. prefix_len (λ (v : Unripe). nat_le v.ripe moment) c.deref.result.now) ripe
    ∙ ap (prefix_len (λ (v : Unripe). nat_le v.ripe c.args.u.ripe)) c.deref.ensures.value in
    c.in_ok-insert.ensures.items ∙ ap (λ n. insert c.args.unripe.items n c.args.u) place ∙ put_at c.args.u c.args.unripe.items
