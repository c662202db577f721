-- The numbers of the states in station and operand words.
use Rattle.std.specs.Prelude.{◌≡◌, ◌⊎◌, ℕ}
use Rattle.ruu_words.specs.declared.station.StationState.{StationState}
use Rattle.ruu_words.specs.declared.station.StationState.TheVariants.{Free, Open, Busy, Addr, Done, Miss, Stop}
use Rattle.ruu_words.specs.declared.operand.OperandState.{OperandState}
use Rattle.ruu_words.specs.declared.operand.OperandState.TheVariants.{Wait, Val}

-- How many states a station has
abbrev pub state_count : ℕ
state_count = 7

-- The number of a station's state
abbrev pub state_code : StationState → ℕ
state_code Free = 0
state_code Open = 1
state_code Busy = 2
state_code Addr = 3
state_code Done = 4
state_code Miss = 5
state_code Stop = 6

-- The number of an operand's state
abbrev pub operand_state_code : OperandState → ℕ
operand_state_code Wait = 1
operand_state_code Val = 2

-- The number of a state of an operand
abbrev pub IsOperandCode : ℕ → Type 0
IsOperandCode n = (n ≡ 1) ⊎ (n ≡ 2)
