-- The words of stops and endings.
use Rattle.std.specs.Prelude.{ℕ, List, ◌++◌, codes}
use Rattle.instructions.specs.declared.stop.Stop.{Stop}
use Rattle.instructions.specs.declared.stop.Stop.TheVariants.{Break, Overflow, Unaligned, OutOfRange, BadPc}
use Rattle.instructions.specs.declared.end.Ending.{Ending}
use Rattle.instructions.specs.declared.end.Ending.TheVariants.{Stop as ByStop, Limit}

-- the word of a stop
abbrev pub stop_word : Stop → List ℕ
stop_word Break = codes "break"
stop_word Overflow = codes "overflow"
stop_word Unaligned = codes "unaligned"
stop_word OutOfRange = codes "range"
stop_word BadPc = codes "badpc"

-- the words for how a run ended
abbrev pub ending_words : Ending → List ℕ
ending_words (ByStop c) = codes "stop " ++ stop_word c
ending_words Limit = codes "limit"
