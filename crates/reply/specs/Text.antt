-- The bytes of a text.
use Rattle.std.specs.Prelude.{List, [], ◌∷◌, ℕ}
use Prim.Native.Char.{code}
use Prim.Native.String.{String, [] as none, ◌∷◌ as ◌then◌}

abbrev pub text : String → List ℕ
text none = []
text (c then s) = code c ∷ text s
