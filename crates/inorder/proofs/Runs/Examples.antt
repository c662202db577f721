-- What the example runs share: programs and sizes, one step and its caller, one entry, and what differs.
use Rattle.std.proofs.Common.{◌≡◌, ◌≢◌, ◌⊎◌, ℕ, List, [], ◌<◌, ltb, eqb, Bool, true, false, Option, Some, None, sym, ◌∙◌, subst, ltb-true, false-eqb}
use Rattle.std.specs.List.{AllByRecursion}
use Rattle.instructions.specs.Programs.{Program}
use Rattle.instructions.specs.declared.instr.Instr.{Instr}
use Rattle.instructions.specs.declared.op.Op.{Op}
use Rattle.instructions.specs.declared.op.Kind.TheVariants.{Computes, Jumps, Links, Loads, Stores}
use Rattle.instructions.specs.declared.stop.Stop.{Stop}
use Rattle.inorder.specs.declared.history.Entry.{Entry}
use Rattle.inorder.specs.declared.history.Event.TheVariants.{Does, Marks, Refuses}
use Rattle.inorder.specs.declared.history.Mark.{Mark}
use Rattle.inorder.specs.declared.history.Refusal.{Refusal}
use Rattle.inorder.specs.declared.history.Source.{Source}
use Rattle.inorder.specs.declared.history.Source.TheVariants.{First, Second}
use Rattle.inorder.specs.declared.history.Step.{Step}
use Rattle.inorder.specs.History.{IsWalked, entry}
use Rattle.inorder.specs.Legal.{Taken}
use Rattle.inorder.specs.Replies.{HasNoOpen, IsOpen}
use Rattle.inorder.specs.Tenants.{Addr, AtLet, Busy, Done, IsNotLive, IsThere, Linked, Live, Open, Retired, Squashed, Stopped, Tenant, Unlinked, operand}
use Rattle.inorder.specs.Unit.{Sizes, UpdateUnit}
use Rattle.inorder.proofs.Positions.{all_at}

-- Programs and sizes

abbrev pub instr : Op → (target first second number : ℕ) → Instr
instr op target first second number = record { op = op; target = target; first = first; second = second; number = number }

abbrev pub program_with : List Instr → List ℕ → Program
program_with code bytes = record { code = code; bytes = bytes }

abbrev pub program : List Instr → Program
program code = program_with code []

abbrev pub two_stations : Sizes
two_stations = record { ring = 2; queue = 2; first_tag = 1 }

-- and a queue of two, or of four
abbrev pub four_stations : Sizes
four_stations = record { ring = 4; queue = 2; first_tag = 1 }

abbrev pub four_entries : Sizes
four_entries = record { ring = 4; queue = 4; first_tag = 1 }

-- Steps and entries

abbrev pub taken : ℕ → Step → Taken
taken by step = record { by = by; step = step }

abbrev pub does : ℕ → Step → Entry
does by step = entry by (Does step)

abbrev pub refused : ℕ → Refusal → Entry
refused by refusal = entry by (Refuses refusal)

abbrev pub marks : ℕ → Mark → Entry
marks by mark = entry by (Marks mark)

-- What differs

pub less : (m n : ℕ) → ltb m n ≡ true → m < n
less m n e = ltb-true m n e

pub apart : (m n : ℕ) → eqb m n ≡ false → m ≢ n
apart m n e = false-eqb m n (sym e)

pub retired_not_live : Retired ≢ Live
retired_not_live e = cc

pub squashed_not_live : Squashed ≢ Live
squashed_not_live e = cc

pub squashed_not_retired : Squashed ≢ Retired
squashed_not_retired e = cc

pub done_not_stop : (v : ℕ) (c : Stop) → Done v ≢ Stopped c
done_not_stop v c e = cc

pub addr_not_stop : (a : ℕ) (c : Stop) → Addr a ≢ Stopped c
addr_not_stop a c e = cc

pub computes_not_links : Computes ≢ Links
computes_not_links e = cc

pub loads_not_links : Loads ≢ Links
loads_not_links e = cc

pub computes_not_stores : Computes ≢ Stores
computes_not_stores e = cc

pub jumps_not_stores : Jumps ≢ Stores
jumps_not_stores e = cc

pub loads_not_stores : Loads ≢ Stores
loads_not_stores e = cc

pub live_not_retired : Live ≢ Retired
live_not_retired e = cc

pub busy_not_open : (by : ℕ) → Busy by ≢ Open
busy_not_open by e = cc

pub at_let_not_linked : {in_time : Bool} → AtLet ≢ Linked in_time
at_let_not_linked e = cc

pub late_not_in_time : Linked false ≢ Linked true
late_not_in_time e = cc

pub unlinked_not_linked : Unlinked ≢ Linked true
unlinked_not_linked e = cc

pub none_not_some : {X : Type 0} (x : X) → None ≢ Some x
none_not_some x e = cc

-- What is true of a tenant is true of the one that stands there
pub known : (Fact : Tenant → Type 0) (o : Option Tenant) (t u : Tenant) → o ≡ Some t → o ≡ Some u → Fact t → Fact u
known Fact o t u e f fact = let same : t ≡ u = cc (sym e ∙ f) in subst Fact same fact

-- One tenant after another: none of a station is open, and all links to a tenant were gone along

pub none_open : (U : UpdateUnit) (s : ℕ) → AllByRecursion (λ t. t.station ≡ s → ¬ IsOpen t) U.tenants → HasNoOpen U s
none_open U s all p t is at_s o = all_at (λ t. t.station ≡ s → ¬ IsOpen t) U.tenants all p t is at_s o

abbrev pub IsServedBy : ℕ → Tenant → Source → Type 0
IsServedBy q t k = (operand k t).creator ≡ Some q → (operand k t).way ≡ Linked true → IsThere (operand k t).value ⊎ IsNotLive t

abbrev pub AreServedBy : ℕ → Tenant → Type 0
AreServedBy q t = IsServedBy q t First × IsServedBy q t Second

pub all_walked : (U : UpdateUnit) (q : ℕ) → AllByRecursion (AreServedBy q) U.tenants → IsWalked U q
all_walked U q all p t First is creator way = (all_at (AreServedBy q) U.tenants all p t is).0 creator way
all_walked U q all p t Second is creator way = (all_at (AreServedBy q) U.tenants all p t is).1 creator way
