-- Histories that begin as others.
use Rattle.std.proofs.Common.{ℕ, List, []}
use Rattle.inorder.specs.declared.history.Entry.{Entry}
use Rattle.instructions.specs.Histories.{StartsWith}
use Rattle.instructions.proofs.Histories.{starts_on}
use Rattle.inorder.specs.OneHistory.{Adds}
use Rattle.station.specs.Seats.{TheCore}
use Rattle.session.specs.Moments.{GrowsLegally, IsBetween}

-- One who looks twice
pub grows_twice : (core : TheCore) (by other : ℕ) (a b c : List Entry) → Adds core.program core.sizes by a b [] → Adds core.program core.sizes other b c [] → GrowsLegally core a c
grows_twice core by other a b c s t = record { begins = starts_on a b c s.begins t.begins; legal = t.legal }

pub grows_on : (core : TheCore) (a b c : List Entry) → GrowsLegally core a b → GrowsLegally core b c → GrowsLegally core a c
grows_on core a b c s t = record { begins = starts_on a b c s.begins t.begins; legal = t.legal }

-- What a caller knew before a call, the call, and what the caller told afterwards
pub between : (Fact : List Entry → List Entry → Type 0) (old before behind later new : List Entry) →
    StartsWith before old → Fact before behind → StartsWith later behind → StartsWith new later → IsBetween old new Fact
between Fact old before behind later new begins fact more told = record { before = before; behind = behind; begins = begins; ends = starts_on behind later new more told; fact = fact }

-- A fact between two moments of a longer history
pub widen : (Fact : List Entry → List Entry → Type 0) (old first last new : List Entry) → StartsWith first old → IsBetween first last Fact → StartsWith new last → IsBetween old new Fact
widen Fact old first last new s i t = record { before = i.before; behind = i.behind; begins = starts_on old first i.before s i.begins; ends = starts_on i.behind last new i.ends t; fact = i.fact }
