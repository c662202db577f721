-- Labels that are noted one by one, and the first of a line that stood before.
use Rattle.std.proofs.Common.{◌≡◌, ◌∙◌, ℕ, ◌+◌, Bool, true, false, ◌||◌, ◌&&◌, List, [], ◌∷◌, ◌++◌, Option, Some, None, refl, sym, ap, append_assoc}
use Rattle.std.specs.Prelude.{is_none, if◌then◌else◌, IfNone, IfSome}
use Rattle.std.specs.Borrow.{Bor}
use Rattle.std.specs.BTreeMap.{BTreeMap}
use Rattle.std.specs.Str.{bytes_eq}
use Rattle.std.proofs.lemmas.List.{append-nil}
use Rattle.isa.specs.declared.listing.spot.Spot.TheVariants.{Label}
use Rattle.lexical.specs.Label.{labels_of}
use Rattle.lexical.specs.Line.{before_comment}
use Rattle.isa.specs.Listing.{Lines, all_labels, is_double, labels, stands_in}
use Rattle.isa.specs.Spots.{double_spot}
use Rattle.isa.proofs.HeldLabels.{double_more}
use Rattle.checker.specs.Keys.{AreNames, has_key}

exchanged : (a b c : Bool) → (a || (b || c)) ≡ (b || (a || c))
exchanged true true c = refl
exchanged true false c = refl
exchanged false b c = refl

one_more : (names : Lines) (x other : List ℕ) → stands_in (names ++ x ∷ []) other ≡ (bytes_eq x other || stands_in names other)
one_more [] x other = refl
one_more (y ∷ ys) x other =
    ap (λ (b : Bool). bytes_eq y other || b) (one_more ys x other) ∙ exchanged (bytes_eq y other) (bytes_eq x other) (stands_in ys other)

abbrev Map : Type 0
Map = BTreeMap (Bor (List ℕ)) ℕ

names_more : (old new : Map) (names : Lines) (x : List ℕ) → AreNames old names
    → ((other : List ℕ) → has_key new other ≡ (bytes_eq x other || has_key old other)) → AreNames new (names ++ x ∷ [])
names_more old new names x are more = λ other.
    more other ∙ ap (λ (b : Bool). bytes_eq x other || b) (are other) ∙ sym (one_more names x other)

-- a label that stood before was found, or is looked for
abbrev pub IsLookedFor : Option ℕ → (n : ℕ) → (now rest earlier all : Lines) → Type 0
IsLookedFor None n now rest earlier all =
    (is_double now rest ≡ is_double earlier all) × (double_spot n now rest ≡ double_spot 0 earlier all)
IsLookedFor (Some k) n now rest earlier all = (is_double earlier all ≡ true) × (Label k ≡ double_spot 0 earlier all)

-- of the labels `all` of a line, which come after earlier ones, those before `rest`, which are n, are noted
pub record AreNoted (map : Map) (earlier : Lines) (n : ℕ) (rest all : Lines) (double : Option ℕ) : Type 0 where
  pub now : Lines
  pub are : AreNames map now
  pub together : now ++ rest ≡ earlier ++ all
  pub found : IsLookedFor double n now rest earlier all

pub noted_none : (map : Map) (earlier all : Lines) → AreNames map earlier → AreNoted map earlier 0 all all None
noted_none map earlier all are = record { now = earlier; are = are; together = refl; found = (refl, refl) }

module _ (map : Map) (earlier : Lines) (n : ℕ) (rest all : Lines) (double : Option ℕ) (so_far : AreNoted map earlier n rest all double) where
  pub noted_names : rest ≡ [] → AreNames map (earlier ++ all)
  noted_names none =
      let together : so_far.now ++ [] ≡ earlier ++ all = rw none at so_far.together in
      rw (sym (append-nil so_far.now) ∙ together) at so_far.are

  looked : (d : Option ℕ) → IsLookedFor d n so_far.now rest earlier all → (name : List ℕ) (names : Lines) → rest ≡ name ∷ names
      → (has : Bool) → has ≡ stands_in so_far.now name
      → IsLookedFor (if is_none d && has then Some n else d) (n + 1) (so_far.now ++ name ∷ []) names earlier all
  looked (Some k) found name names front has is = found
  looked None found name names front true is =
      let twice : is_double so_far.now (name ∷ names) ≡ is_double earlier all = rw front at found.0 in
      let spot : double_spot n so_far.now (name ∷ names) ≡ double_spot 0 earlier all = rw front at found.1 in
      let stands = double_more so_far.now names name ∙ ap (λ (b : Bool). b || is_double (so_far.now ++ name ∷ []) names) (sym is) in
      (sym twice ∙ stands, rw (sym is) at spot)
  looked None found name names front false is =
      let twice : is_double so_far.now (name ∷ names) ≡ is_double earlier all = rw front at found.0 in
      let spot : double_spot n so_far.now (name ∷ names) ≡ double_spot 0 earlier all = rw front at found.1 in
      let stands = double_more so_far.now names name ∙ ap (λ (b : Bool). b || is_double (so_far.now ++ name ∷ []) names) (sym is) in
      (sym stands ∙ twice, rw (sym is) at spot)

  pub noted_more : (after : Map) (name : List ℕ) (names : Lines) (has : Bool) → rest ≡ name ∷ names → has ≡ has_key map name
      → ((other : List ℕ) → has_key after other ≡ (bytes_eq name other || has_key map other))
      → AreNoted after earlier (n + 1) names all (if is_none double && has then Some n else double)
  noted_more after name names has front is more = record {
    now = so_far.now ++ name ∷ [];
    are = names_more map after so_far.now name so_far.are more;
    together = append_assoc so_far.now (name ∷ []) names ∙ (rw front at so_far.together);
    found = looked double so_far.found name names front has (is ∙ so_far.are name);
  }

module _ (first map : Map) (n : ℕ) (rest all : Lines) where
  pub noted_some : (double : Option ℕ) → ((earlier : Lines) → AreNames first earlier → AreNoted map earlier n rest all double)
      → IfSome double (λ k. (earlier : Lines) → AreNames first earlier → (is_double earlier all ≡ true) × (Label k ≡ double_spot 0 earlier all))
  noted_some None noted = tt
  noted_some (Some k) noted = λ earlier are. (noted earlier are).found

  pub noted_alone : rest ≡ [] → (double : Option ℕ) → ((earlier : Lines) → AreNames first earlier → AreNoted map earlier n rest all double)
      → IfNone double ((earlier : Lines) → AreNames first earlier → is_double earlier all ≡ false)
  noted_alone none None noted = λ earlier are.
      let so_far = noted earlier are in
      let single : is_double so_far.now [] ≡ is_double earlier all = rw none at so_far.found.0 in
      sym single
  noted_alone none (Some k) noted = tt

-- ---- the labels of all lines

-- the names are those of the lines before
abbrev pub AreSoFar : (map : Map) (left all : Lines) → Type 0
AreSoFar map left all = (done : Lines) × (AreNames map done × (done ++ all_labels left ≡ all_labels all))

pub no_names : (map : Map) (all : Lines) → AreNames map [] → AreSoFar map all all
no_names map all are = ([], (are, refl))

pub so_far_more : (map after : Map) (left all : Lines) (line code : List ℕ) (others : Lines) → AreSoFar map left all → left ≡ line ∷ others
    → code ≡ before_comment line → ((earlier : Lines) → AreNames map earlier → AreNames after (earlier ++ labels_of code)) → AreSoFar after others all
so_far_more map after left all line code others so_far front is more =
    let text : labels_of code ≡ labels line = ap labels_of is in
    let together : so_far.0 ++ (labels line ++ all_labels others) ≡ all_labels all = rw front at so_far.1.1 in (
      so_far.0 ++ labels line,
      (rw text at (more so_far.0 so_far.1.0), append_assoc so_far.0 (labels line) (all_labels others) ∙ together),
    )

pub all_names : (map : Map) (left all : Lines) → AreSoFar map left all → left ≡ [] → AreNames map (all_labels all)
all_names map left all so_far none =
    let together : so_far.0 ++ [] ≡ all_labels all = rw none at so_far.1.1 in
    rw (sym (append-nil so_far.0) ∙ together) at so_far.1.0
