-- A word as it is quoted (this project's own form).
use Rattle.std.specs.Prelude.{ℕ, ◌+◌, ◌-◌, ◌/◌, ◌%◌, Bool, ◌&&◌, nat_le, nat_lt, if◌then◌else◌, List, [], ◌∷◌, ◌++◌, length, take, codes}

-- a printable character of ASCII
abbrev pub is_shown : ℕ → Bool
is_shown byte = nat_le 32 byte && nat_lt byte 127

-- the digit of a number below 16
abbrev pub hex_digit : ℕ → ℕ
hex_digit number = if nat_lt number 10 then 48 + number else 97 + (number - 10)

-- the text with a byte more, as it is shown: itself, or `\x` and two digits
abbrev pub byte_text : List ℕ → ℕ → List ℕ
byte_text text byte = if is_shown byte then text ++ byte ∷ [] else text ++ 92 ∷ 120 ∷ hex_digit (byte / 16) ∷ hex_digit (byte % 16) ∷ []

-- the text with more bytes, as they are shown
abbrev pub said_on : List ℕ → List ℕ → List ℕ
said_on text [] = text
said_on text (byte ∷ bytes) = said_on (byte_text text byte) bytes

-- what says that a word has more bytes than are shown
abbrev pub dots : List ℕ → List ℕ
dots word = if nat_lt 40 (length word) then codes ".." else []

-- the text with a word between double quotes: at most its first 40 bytes, and `..` where it has more
abbrev pub quoted : List ℕ → List ℕ → List ℕ
quoted text word = said_on (text ++ 34 ∷ []) (take 40 word) ++ dots word ++ 34 ∷ []
