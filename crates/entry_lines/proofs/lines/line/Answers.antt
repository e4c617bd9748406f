use Rattle.std.proofs.Common.{◌≡◌, ◌≤◌, ◌<◌, ◌+◌, ◌^◌, ℕ, List, [], ◌∷◌, ◌++◌, length, decimal, map, ap, ◌∙◌, arith}
use Rattle.std.specs.List.{join_with_byte}
use Rattle.std.proofs.lemmas.Fmt.{length-decimal-le}
use Rattle.line_text.proofs.Joined.{joins_first}
use Rattle.log_model.specs.LogText.{Part, shown}
use Rattle.entry_lines.specs.Parts.{said}
use Rattle.entry_lines.proofs.lines.line.Goals as goal

-- a text with a space and a word behind it is joined as the text and the word
one_more : (text word : List ℕ) (words : List (List ℕ)) → join_with_byte 32 ((text ++ 32 ∷ word) ∷ words) ≡ join_with_byte 32 (text ∷ word ∷ words)
one_more text word words = joins_first text (32 ∷ word) words ∙ ap (λ rest. text ++ rest) (joins_first (32 ∷ []) word words)

-- so is a place with a seat behind it
begun : (place seat : ℕ) (meant parts : List Part) (first second : List ℕ) → first ≡ decimal place → second ≡ first ++ 32 ∷ decimal seat → meant ≡ parts
    → join_with_byte 32 (second ∷ map shown meant) ≡ join_with_byte 32 (decimal place ∷ decimal seat ∷ map shown parts)
begun place seat meant parts first second p q r = rw (q, p, r) (one_more (decimal place) (decimal seat) (map shown parts))

-- a place of 32 bits and a seat are short
short : (place : ℕ) (first second : List ℕ) → first ≡ decimal place → length second ≤ length first + 21 → place < 2 ^ 32 → length second ≤ 31
short place first second p h low =
    let few : length (decimal place) ≤ 10 = length-decimal-le 10 place (omega arith) (omega arith) (omega arith) in
    omega (arith, ap length p)

pub loop-part-init : goal.loop-part-init
loop-part-init c =
    let place : c.add_decimal.new.line.items ≡ decimal c.args.place = cc in
    let seat : c.add_number.new.line.items ≡ c.add_decimal.new.line.items ++ 32 ∷ decimal c.args.entry.now.seat = cc in
    let parts = ap (map said) c.as_slice-part-items.ensures.value ∙ c.parts_of.ensures.parts in
    record {
      items = begun c.args.place c.args.entry.now.seat _ _ _ _ place seat parts;
      room = short c.args.place _ _ place c.add_number.ensures.short c.ranges.place.fits;
      short = rw c.as_slice-part-items.ensures.value c.parts_of.ensures.short;
    }
