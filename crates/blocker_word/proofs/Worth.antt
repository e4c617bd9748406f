-- What the word is worth.
-- Cited by `live_items.rt`.
use Rattle.std.proofs.Common.{refl, ◌≡◌, ℕ, ◌≤◌, List, ap, arith}
use mathlib.Core.Option.{some}
use lib.ListN.{get_elem?}
use Rattle.blocker_word.specs.Roles.{done, spent}
use Rattle.blocker_word.specs.Word.{dones, IsCounted}
use Rattle.blocker_word.specs.Worth.{CountsLive}
use Rattle.blocker_word.specs.declared.view.View.{View}
use Rattle.blocker_word.proofs.Sums.{changed}
use Rattle.blocker_word.proofs.Changes.{bits_are}

-- a token that says so is one of those with which shutdown is done
done_stands : (tokens : List View) (id : ℕ) (v : View) → get_elem? tokens id ≡ some v → v.role ≡ done → 1 ≤ dones tokens
done_stands tokens id v here is =
    let t = changed tokens id v (record v { role = spent }) done spent is refl here in omega arith

pub counts_live : (word : ℕ) (tokens : List View) → IsCounted word tokens → CountsLive word tokens
counts_live word tokens c =
    let are = bits_are word tokens c in record {
      before = λ not. omega arith;
      at_done = λ h. omega arith;
      after = λ h. omega arith;
      shown = λ h. omega arith;
      refuses = λ h m n began. ap (λ x. x.0.role) (began.refused_is h);
      stays = λ id v here is. let some = done_stands tokens id v here is in omega arith;
    }
