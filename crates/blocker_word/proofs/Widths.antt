-- Making, splitting and joining tokens keep what the word counts.
-- Cited by `BlockerWord::join`, `BlockerWord::new`, `BlockerWord::split`.
use Rattle.std.proofs.Common.{◌≡◌, ℕ, ◌+◌, ◌%◌, ◌<◌, ◌≤◌, List, [], ◌∷◌, ◌++◌, set, eqb, refl, subst, ◌∙◌, ap, arith}
use Rattle.std.proofs.lemmas.List.Elements.{All-cons, All-nil, All-push, All-set}
use mathlib.Core.Option.{some}
use prog.Atomic.{either}
use lib.ListN.{get_elem?}
use Rattle.atomic_table.specs.Table.{Allows, Splits, Joins, opening}
use Rattle.atomic_table.proofs.Lists.{exchanged}
use Rattle.blocker_word.specs.Roles.{idle, control, spent, least_width}
use Rattle.blocker_word.specs.Word.{widths, bits, FitsToken, IsCounted}
use Rattle.blocker_word.specs.Table.{TableCounts}
use Rattle.blocker_word.specs.Tokens.{first_token, without_width, all_width, kept_part, given_part, with_width, spent_view}
use Rattle.blocker_word.specs.Plays.{Sat, offered, weighed}
use Rattle.blocker_word.specs.declared.view.View.{View}
use Rattle.blocker_word.proofs.Sums.{changed, longer, fits_at}
use Rattle.blocker_word.proofs.Changes.{Keeps, allowed, recounted, turned}

-- one more idle token, for which there is room
pushed : (word : ℕ) (tokens : List View) (w : View) → w.role ≡ idle → 1 ≤ w.width → w.met ≡ 0 → widths tokens + w.width ≤ 4294967295
    → IsCounted word tokens → IsCounted word (tokens ++ w ∷ [])
pushed word tokens w is least none room c =
    let t = longer tokens w idle is in
    let needs : least_width w.role ≡ 1 = ap least_width is in
    recounted word tokens (tokens ++ w ∷ []) (All-push (FitsToken (bits tokens)) tokens w c.each (grind arith)) (grind arith)

-- a token of the same role gets another width, for which there is room
rewidened : (word id : ℕ) (tokens : List View) (v w : View) → w.role ≡ v.role → w.met ≡ v.met → least_width v.role ≤ w.width
    → widths tokens + w.width ≤ v.width + 4294967295 → get_elem? tokens id ≡ some v → IsCounted word tokens → IsCounted word (set tokens id w)
rewidened word id tokens v w is met least room here c =
    let t = changed tokens id v w v.role v.role refl is here in
    let rises = (fits_at (bits tokens) tokens id v c.each here).rises in
    let same : w.met % 4 ≡ v.met % 4 = ap (λ n. n % 4) met in
    let needs : least_width w.role ≡ least_width v.role = ap least_width is in turned word word id tokens w c (grind arith) (grind arith)

-- a token is cut in two
parted : (id : ℕ) (v left right : View) → left.role ≡ v.role → left.met ≡ v.met → right.role ≡ idle → right.met ≡ 0 → left.width + right.width ≡ v.width
    → least_width v.role ≤ left.width → 1 ≤ right.width → Splits TableCounts id v left right
parted id v left right is met is' none sum least wide s h here =
    let t = changed s.views id v left v.role v.role refl is here in
    let room = h.counted.widths_fit in record {
      word = h.word;
      words_are = h.words_are;
      counted = pushed h.word (set s.views id left) right is' wide none (let are = t.widths_are in omega arith)
          (rewidened h.word id s.views v left is met least (omega arith) here h.counted);
    }

-- the first idle token is split off
pub opens : (id : ℕ) (v : View) → v.role ≡ control → 1 ≤ v.width → Splits TableCounts id v (without_width v) (all_width v)
opens id v is wide = parted id v (without_width v) (all_width v) refl refl refl refl (omega arith)
    (let needs : least_width v.role ≡ 0 = ap least_width is in omega arith) wide

-- an idle token gives the width that it has offered
pub gives : (id : ℕ) (v : View) → v.role ≡ idle → 1 ≤ v.offered → v.offered < v.width → Splits TableCounts id v (kept_part v) (given_part v)
gives id v is least less = parted id v (kept_part v) (given_part v) refl refl refl refl (omega arith)
    (let needs : least_width v.role ≡ 1 = ap least_width is in omega arith) least

-- a token takes the width of another, which is spent
pub merges : (id : ℕ) (v : View) (other : ℕ) (w : View) → v.role ≡ idle → w.role ≡ idle → Joins TableCounts id v other w (with_width v w) spent_view
merges id v other w is is' s h here apart there =
    let both : View = with_width v w in
    let middle = set s.views id both in
    let after = set middle other spent_view in
    let one = changed s.views id v both idle idle is is here in
    let two = changed middle other w spent_view idle spent is' refl there in
    let mine = fits_at (bits s.views) s.views id v h.counted.each here in
    let counted = h.counted in record {
      word = h.word;
      words_are = h.words_are;
      counted = recounted h.word s.views after
          (All-set (FitsToken (bits s.views)) middle other spent_view (grind arith)
          (All-set (FitsToken (bits s.views)) s.views id both (grind arith) h.counted.each))
          (grind arith);
    }

-- a token with another number offered is the same otherwise
offers_so : (give old new : ℕ) (id : ℕ) (me : Sat) → old ≡ new → Keeps id me (λ n. either (eqb n old) new n) (offered (some give) me)
offers_so give old new id me same word tokens c here =
    let w : View = record me.0 { offered = give } in
    let room = c.widths_fit in
    let least = (fits_at (bits tokens) tokens id me.0 c.each here).room in
    let kept = rewidened word id tokens me.0 w refl refl least (omega arith) here c in
    (w, exchanged word old new (λ n. IsCounted n (set tokens id w)) (λ hit. subst (λ n. IsCounted n (set tokens id w)) (hit ∙ same) kept) (λ miss. kept), refl)

pub offer_allowed : (slots id : ℕ) (me : Sat) (give : ℕ) → Allows TableCounts slots id me 0 (λ n. either (eqb n 0) 0 n) (offered (some give) me)
offer_allowed slots id me give = allowed slots id me (λ n. either (eqb n 0) 0 n) (offered (some give) me) (offers_so give 0 0 id me refl)

-- the widths together are within 32 bits, so the token's own is
weighs : (id : ℕ) (me : Sat) → Keeps id me (λ n. n) (λ found n. weighed me found n)
weighs id me word tokens c here =
    let t = changed tokens id me.0 (record me.0 { width = 0 }) me.0.role me.0.role refl refl here in
    let room = c.widths_fit in
    let least = (fits_at (bits tokens) tokens id me.0 c.each here).room in
    (me.0, rewidened word id tokens me.0 me.0 refl refl least (omega arith) here c, (refl, omega arith))

pub weigh_allowed : (slots id : ℕ) (me : Sat) → Allows TableCounts slots id me 0 (λ n. n) (weighed me)
weigh_allowed slots id me = allowed slots id me (λ n. n) (weighed me) (weighs id me)

-- a word that is made counts its first token
pub makes : TableCounts (opening (0 ∷ []) [] first_token)
makes = record {
  word = 0;
  words_are = refl;
  counted = record {
    word_is = refl;
    one = refl;
    before_done = λ _. refl;
    after_done = λ _. refl;
    widths_fit = omega arith;
    each = All-cons (FitsToken 0) first_token [] (record { room = omega arith; rises = omega arith }) (All-nil (FitsToken 0));
  };
}
