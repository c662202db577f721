-- The image of a loaded program.
use Rattle.std.specs.Prelude.{ℕ, List, [], replicate}

-- an image: the words of the text, and the bytes of data memory
pub record Loaded : Type 0 where
  pub code : List ℕ
  pub bytes : List ℕ

-- the size of data memory, which data, heap and stack share
abbrev pub data_size : ℕ
data_size = 65536

-- n bytes that are 0
unfoldable pub zeros : ℕ → List ℕ
zeros count = replicate count 0

-- the image before any segment is loaded
abbrev pub nothing_loaded : Loaded
nothing_loaded = record { code = []; bytes = zeros data_size }
