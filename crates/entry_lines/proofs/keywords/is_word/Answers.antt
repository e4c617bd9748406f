use Rattle.std.proofs.Common.{◌≡◌, ◌<◌, ◌≤◌, ◌+◌, ℕ, suc, true, List, length, get_or, take, take-suc, take_all, refl, sym, ◌∙◌, arith}
use Rattle.std.specs.Str.{bytes_eq}
use Rattle.std.proofs.lemmas.Slice.Eq.{bytes_eq-Decides}
use Rattle.entry_lines.proofs.keywords.is_word.Goals as goal

-- with one more byte the fronts are the same
same_more : (a b : List ℕ) (i : ℕ) → i < length a → i < length b → take i a ≡ take i b → get_or a i 0 ≡ get_or b i 0 → take (i + 1) a ≡ take (i + 1) b
same_more a b i low low' front here =
    let on : i + 1 ≡ suc i = omega arith in
    rw (on, take-suc a i 0 low, take-suc b i 0 low', front, here) refl

-- fronts that are all there is
same_all : (a b : List ℕ) (i : ℕ) → length a ≤ i → length b ≤ i → take i a ≡ take i b → true ≡ bytes_eq a b
same_all a b i all all' front = sym ((bytes_eq-Decides a b).1 (sym (take_all i a all) ∙ front ∙ take_all i b all'))

pub loop-i-preserved : goal.loop-i-preserved
loop-i-preserved c = same_more c.args.word.now c.args.name.now c.loop-i.i (omega arith) (omega arith) c.loop-i.invariant (omega arith)

pub returns : goal.returns
returns c = same_all c.args.word.now c.args.name.now c.loop-i.i (omega arith) (omega arith) c.loop-i.invariant
