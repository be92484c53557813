-- The bytes that a sequence file may hold.
use Rattle.std.specs.Prelude.{◌≡◌, ℕ, ◌<◌, Bool, true, false, ◌&&◌, ◌||◌, List, length, ◌==◌, nat_le, slice_index}

-- a printable character, 0Dh or 0Ah
abbrev pub is_text : ℕ → Bool
is_text b = (nat_le 32 b && nat_le b 126) || (b == 13 || b == 10)

abbrev pub TextBelow : ℕ → List ℕ → Type 0
TextBelow n bs = (k : ℕ) → k < n → is_text (slice_index bs k) ≡ true

abbrev pub AllText : List ℕ → Type 0
AllText bs = TextBelow (length bs) bs

-- the byte at i is b and no text, and every byte before it is text
abbrev pub FirstStray : List ℕ → ℕ → ℕ → Type 0
FirstStray bs i b = (i < length bs) × (slice_index bs i ≡ b) × (is_text b ≡ false) × TextBelow i bs
