-- The diagnostics of the bytes of a listing, and the exit of a check.
use Rattle.std.specs.Prelude.{◌≡◌, ℕ, Bool, List}
use Rattle.isa.specs.Listing.{listing}
use Rattle.command_line.specs.Exits.{IsOfOneThread, refused}
use Rattle.command_line.specs.Replies.{IfRefused}
use Rattle.command_line.specs.declared.exit.Exit.{Exit}
use Rattle.command_line.specs.declared.exit.Line.{Line}
use Rattle.command_line.specs.declared.exit.Line.TheVariants.{Nothing, Tally, Refused}
use Rattle.checker.specs.Diagnostics.{IsCheckOf}
use Rattle.checker.specs.Names.{name_text}

-- the status and the diagnostics of the bytes of a listing
abbrev pub IsCheck : (file : List ℕ) → (all : Bool) → (status : ℕ) → (bytes text : List ℕ) → Type 0
IsCheck file all status bytes text = IsCheckOf (name_text file) all bytes (listing bytes) status text

-- the diagnostics of the bytes of a listing, with some status
abbrev pub IsSomeCheck : (file : List ℕ) → (all : Bool) → (bytes text : List ℕ) → Type 0
IsSomeCheck file all bytes text = (status : ℕ) × IsCheck file all status bytes text

-- the diagnostics with which a check ends: those of its status, or where it is refused, those with some status
abbrev pub IsCheckBy : Line → (file : List ℕ) → (all : Bool) → (status : ℕ) → (bytes text : List ℕ) → Type 0
IsCheckBy Nothing file all status bytes text = IsCheck file all status bytes text
IsCheckBy (Tally totals) file all status bytes text = IsSomeCheck file all bytes text
IsCheckBy (Refused refusal) file all status bytes text = IsSomeCheck file all bytes text

-- the exit of a program on one thread: a refusal has a status of its own
abbrev pub IsExitOfOneThread : Exit → Type 0
IsExitOfOneThread exit = IsOfOneThread exit.line × IfRefused exit.line (λ refusal. exit ≡ refused refusal)
