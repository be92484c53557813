-- Replies and script lines as a transcript shows them.
use Rattle.std.specs.Prelude.{ℕ, cond, ◌&&◌, List, [], ◌∷◌, ◌++◌, length, ◌==◌, nat_le}
use Rattle.replies.specs.Replies.{hex_of}

-- a printable character as it is, any other byte as \xHH
abbrev pub escaped_of : ℕ → List ℕ
escaped_of b = cond (nat_le 32 b && nat_le b 126) (b ∷ []) (92 ∷ (120 ∷ hex_of b))

abbrev pub escaped_all : List ℕ → List ℕ
escaped_all [] = []
escaped_all (b ∷ bs) = escaped_of b ++ escaped_all bs

-- nothing for an empty reply
abbrev pub reply_of : List ℕ → List ℕ
reply_of r = cond (length r == 0) [] ((60 ∷ (32 ∷ [])) ++ (escaped_all r ++ (10 ∷ [])))

abbrev pub echo_of : List ℕ → List ℕ
echo_of l = (62 ∷ (32 ∷ [])) ++ (l ++ (10 ∷ []))
