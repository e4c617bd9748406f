-- The steps on the word keep what it counts.
-- Cited by `Plays`.
use Rattle.std.proofs.Common.{◌≡◌, ℕ, ◌+◌, ◌-◌, ◌%◌, List, set, refl, ap, arith}
use mathlib.Core.Option.{some}
use lib.ListN.{get_elem?}
use Rattle.blocker_word.specs.Roles.{Role, idle, item, refused, control, started, done, spent, least_width}
use Rattle.blocker_word.specs.Roles.{one_if_item, one_if_refused, one_if_control, one_if_started, one_if_done}
use Rattle.blocker_word.specs.Word.{dones, bits, IsCounted}
use Rattle.blocker_word.specs.Plays.{Sat, met_as, Found}
use Rattle.blocker_word.specs.declared.view.View.{View}
use Rattle.blocker_word.proofs.Sums.{changed, fits_at}
use Rattle.blocker_word.proofs.Changes.{turned, bits_are}

-- a step that a token counts finds a word that the rule allows, with the bits that it met before
pub found : (id : ℕ) (me : Sat) (word : ℕ) (tokens : List View) → IsCounted word tokens → get_elem? tokens id ≡ some me.0 → Found me word
found id me word tokens c here =
    let rises = (fits_at (bits tokens) tokens id me.0 c.each here).rises in
    let are = bits_are word tokens c in record { counted = record { tokens = tokens; counted = c }; rises = omega arith }

-- a role that the word counts: a live item or a refused begin
pub record IsCounting (r : Role) : Type 0 where
  pub one : one_if_item r + one_if_refused r ≡ 1
  pub none : one_if_control r + one_if_started r + one_if_done r ≡ 0
  pub least : least_width r ≡ 1

-- a role that counts one is such a role
pub counting : (r : Role) → one_if_item r + one_if_refused r ≡ 1 → IsCounting r
counting item e = record { one = refl; none = refl; least = refl }
counting refused e = record { one = refl; none = refl; least = refl }
counting idle e = absurd (omega arith)
counting control e = absurd (omega arith)
counting started e = absurd (omega arith)
counting done e = absurd (omega arith)
counting spent e = absurd (omega arith)

-- an idle token becomes one that the word counts, and meets this word
pub gains : (id : ℕ) (me : Sat) (r : Role) (word : ℕ) (tokens : List View) → me.0.role ≡ idle → IsCounting r → (dones tokens ≡ 0 → one_if_refused r ≡ 0)
    → (dones tokens ≡ 1 → one_if_item r ≡ 0) → IsCounted word tokens → get_elem? tokens id ≡ some me.0
    → IsCounted (word + 4) (set tokens id (met_as r me.0 word))
gains id me r word tokens is k before after c here =
    let w : View = met_as r me.0 word in
    let t = changed tokens id me.0 w idle r is refl here in
    let room = (fits_at (bits tokens) tokens id me.0 c.each here).room in
    let least : least_width me.0.role ≡ 1 = ap least_width is in
    let are = bits_are word tokens c in turned word (word + 4) id tokens w c (grind arith) (grind arith)

-- a token that the word counts becomes idle
pub loses : (id : ℕ) (me : Sat) (word : ℕ) (tokens : List View) → IsCounting me.0.role → IsCounted word tokens → get_elem? tokens id ≡ some me.0
    → (word - 4 + 4 ≡ word) × IsCounted (word - 4) (set tokens id (record me.0 { role = idle }))
loses id me word tokens k c here =
    let w : View = record me.0 { role = idle } in
    let t = changed tokens id me.0 w me.0.role idle refl refl here in
    let fits = fits_at (bits tokens) tokens id me.0 c.each here in (omega arith, turned word (word - 4) id tokens w c (grind arith) (grind arith))

-- the token of shutdown before start becomes that after it
pub starts_once : (id : ℕ) (me : Sat) (word : ℕ) (tokens : List View) → me.0.role ≡ control → IsCounted word tokens → get_elem? tokens id ≡ some me.0
    → (word % 4 ≡ 0) × IsCounted (word + 1) (set tokens id (met_as started me.0 word))
starts_once id me word tokens is c here =
    let w : View = met_as started me.0 word in
    let t = changed tokens id me.0 w control started is refl here in
    let are = bits_are word tokens c in (omega arith, turned word (word + 1) id tokens w c (grind arith) (grind arith))

-- it becomes that of a shutdown that is done, where the word was 1
pub done_at_one : (id : ℕ) (me : Sat) (tokens : List View) → me.0.role ≡ started → IsCounted 1 tokens → get_elem? tokens id ≡ some me.0
    → IsCounted 3 (set tokens id (met_as done me.0 1))
done_at_one id me tokens is c here =
    let w : View = met_as done me.0 1 in
    let t = changed tokens id me.0 w started done is refl here in
    let word_is = c.word_is in turned 1 3 id tokens w c (grind arith) (grind arith)

-- a token that only meets the word
pub meets : (id : ℕ) (me : Sat) (word : ℕ) (tokens : List View) → IsCounted word tokens → get_elem? tokens id ≡ some me.0
    → IsCounted word (set tokens id (met_as me.0.role me.0 word))
meets id me word tokens c here =
    let w : View = met_as me.0.role me.0 word in
    let t = changed tokens id me.0 w me.0.role me.0.role refl refl here in
    let room = (fits_at (bits tokens) tokens id me.0 c.each here).room in
    let are = bits_are word tokens c in turned word word id tokens w c (record { room = room; rises = omega arith }) (grind arith)

-- while the token of a started shutdown stands, the start bit alone is set
pub started_bits : (id : ℕ) (me : Sat) (word : ℕ) (tokens : List View) → me.0.role ≡ started → IsCounted word tokens → get_elem? tokens id ≡ some me.0
    → word % 4 ≡ 1
started_bits id me word tokens is c here =
    let t = changed tokens id me.0 (record me.0 { role = spent }) started spent is refl here in
    let are = bits_are word tokens c in omega arith
