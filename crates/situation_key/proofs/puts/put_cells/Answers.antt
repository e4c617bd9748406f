use Rattle.std.proofs.Common.{◌++◌, ◌∷◌, [], length, append_assoc, ap, sym, ◌∙◌}
use Rattle.situation_key.proofs.Lists.{cells_are}
use Rattle.situation_key.proofs.puts.put_cells.Goals as goal

pub returns : goal.returns
returns c =
    let before = c.args.key.now.items in
    let cells = c.args.cells.now in
    c.in_ok-extend_from_slice.ensures.items ∙ ap (λ xs. xs ++ cells) c.in_ok-push.ensures.items ∙ append_assoc before (length cells ∷ []) cells
    ∙ ap (λ xs. before ++ (length cells ∷ xs)) (sym (cells_are cells))
