-- What a check decides by computing, with the proof where it is so: of numbers, fates and kinds.
use Rattle.std.proofs.Common.{◌≡◌, ◌≢◌, ℕ, ◌<◌, Bool, true, false, eqb, ltb, List, [], ◌∷◌, Option, Some, None, IfSome, is_some, refl, sym, ap, true≢false, eqb-true, ltb-true, false-eqb}
use Rattle.std.specs.List.{AllByRecursion}
use Rattle.instructions.specs.declared.op.Kind.{Kind}
use Rattle.instructions.specs.declared.op.Kind.TheVariants.{Computes, Jumps, Links, Loads, Stores}
use Rattle.inorder.specs.Tenants.{Addr, Busy, Fate, Guessed, Linked, Live, Miss, Open, Retired, Squashed, Standing, Tenant, Unlinked, Way}
use Rattle.inorder.proofs.Runs.Examples.{computes_not_links, computes_not_stores, jumps_not_stores, loads_not_links, loads_not_stores, retired_not_live, squashed_not_live}
use Rattle.instructions.specs.declared.stop.Outcome.{Outcome}
use Rattle.instructions.specs.declared.stop.Outcome.TheVariants.{Address}

-- What was found
pub given : {X : Type 0} (o : Option X) → is_some o ≡ true → X
given (Some x) e = x
given None e = absurd (true≢false (sym e))

-- If there is the one, what comes of it
abbrev pub then : {X Y : Type 0} → Option X → (X → Option Y) → Option Y
then None f = None
then (Some x) f = f x

-- Numbers, and what an option has

abbrev pub if_equal : (m n : ℕ) (b : Bool) → eqb m n ≡ b → Option (m ≡ n)
if_equal m n true e = Some (eqb-true m n e)
if_equal m n false e = None

abbrev pub equal : (m n : ℕ) → Option (m ≡ n)
equal m n = if_equal m n (eqb m n) refl

abbrev pub if_apart : (m n : ℕ) (b : Bool) → eqb m n ≡ b → Option (m ≢ n)
if_apart m n false e = Some (false-eqb m n (sym e))
if_apart m n true e = None

abbrev pub is_apart : (m n : ℕ) → Option (m ≢ n)
is_apart m n = if_apart m n (eqb m n) refl

abbrev pub if_less : (m n : ℕ) (b : Bool) → ltb m n ≡ b → Option (m < n)
if_less m n true e = Some (ltb-true m n e)
if_less m n false e = None

abbrev pub is_less : (m n : ℕ) → Option (m < n)
is_less m n = if_less m n (ltb m n) refl

abbrev pub is_false : (b : Bool) → Option (b ≡ false)
is_false false = Some refl
is_false true = None

abbrev pub if_true : {X : Type 0} → (b : Bool) → Option X → Option (b ≡ true → X)
if_true true o = then o (λ x. Some (λ e. x))
if_true false o = Some (λ e. absurd (true≢false (sym e)))

abbrev pub some_of : {X : Type 0} → (o : Option X) → Option ((x : X) × (o ≡ Some x))
some_of None = None
some_of (Some x) = Some (x, refl)

abbrev pub none_of : {X : Type 0} → (o : Option X) → Option (o ≡ None)
none_of None = Some refl
none_of (Some x) = None

abbrev pub some_is : (o : Option ℕ) (n : ℕ) → Option (o ≡ Some n)
some_is None n = None
some_is (Some m) n = then (equal m n) (λ e. Some (ap Some e))

abbrev pub if_some_is : (o : Option ℕ) (n : ℕ) → Option (IfSome o (λ x. n ≡ x))
if_some_is None n = Some tt
if_some_is (Some x) n = equal n x

abbrev pub all : (Q : Tenant → Type 0) → ((t : Tenant) → Option (Q t)) → (ts : List Tenant) → Option (AllByRecursion Q ts)
all Q q [] = Some tt
all Q q (t ∷ ts) = then (q t) (λ h. then (all Q q ts) (λ hs. Some (h, hs)))

-- A tenant's standing, fate and ways

abbrev pub stands_live : (s : Standing) → Option (s ≡ Live)
stands_live Live = Some refl
stands_live Retired = None
stands_live Squashed = None

abbrev pub has_left : (s : Standing) → Option (s ≢ Live)
has_left Live = None
has_left Retired = Some retired_not_live
has_left Squashed = Some squashed_not_live

abbrev pub stays_open : (f : Fate) → Option (f ≡ Open)
stays_open Open = Some refl
stays_open _ = None

abbrev pub is_busy : (f : Fate) (by : ℕ) → Option (f ≡ Busy by)
is_busy (Busy m) by = then (equal m by) (λ e. Some (ap Busy e))
is_busy _ by = None

abbrev pub has_address : (f : Fate) → Option ((a : ℕ) × (f ≡ Addr a))
has_address (Addr a) = Some (a, refl)
has_address _ = None

abbrev pub is_miss : (f : Fate) → Option ((x : ℕ) × (f ≡ Miss x))
is_miss (Miss x) = Some (x, refl)
is_miss _ = None

abbrev pub is_guess : (f : Fate) → Option ((v : ℕ) × (f ≡ Guessed v))
is_guess (Guessed v) = Some (v, refl)
is_guess _ = None

abbrev pub is_address : (o : Outcome) → Option ((a : ℕ) × (o ≡ Address a))
is_address (Address a) = Some (a, refl)
is_address _ = None

abbrev pub is_unlinked : (w : Way) → Option (w ≡ Unlinked)
is_unlinked Unlinked = Some refl
is_unlinked _ = None

abbrev pub is_linked : (w : Way) → Option ((in_time : Bool) × (w ≡ Linked in_time))
is_linked (Linked b) = Some (b, refl)
is_linked _ = None

-- Kinds

abbrev pub loads : (k : Kind) → Option (k ≡ Loads)
loads Loads = Some refl
loads _ = None

pub links_not_stores : Links ≢ Stores
links_not_stores e = cc

abbrev pub stores_not : (k : Kind) → Option (k ≢ Stores)
stores_not Computes = Some computes_not_stores
stores_not Jumps = Some jumps_not_stores
stores_not Links = Some links_not_stores
stores_not Loads = Some loads_not_stores
stores_not Stores = None

pub jumps_not_links : Jumps ≢ Links
jumps_not_links e = cc

pub stores_not_links : Stores ≢ Links
stores_not_links e = cc

abbrev pub links_not : (k : Kind) → Option (k ≢ Links)
links_not Computes = Some computes_not_links
links_not Jumps = Some jumps_not_links
links_not Loads = Some loads_not_links
links_not Stores = Some stores_not_links
links_not Links = None
