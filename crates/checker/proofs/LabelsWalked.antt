-- The labels of a line, one by one.
use Rattle.std.proofs.Common.{◌≡◌, ◌∙◌, ℕ, Bool, true, List, ◌∷◌, ap, arith, refl, subst}
use Rattle.std.specs.Prelude.{◌||◌}
use Rattle.std.specs.Str.{bytes_eq}
use Rattle.std.proofs.lemmas.Slice.Eq.{bytes_eq-Decides}
use Rattle.lexical.specs.Label.{labels_of}
use Rattle.lexical.specs.Line.{before_comment}
use Rattle.isa.specs.Listing.{labels, stands_in}

-- each label of a text is one of the line
abbrev pub HasLabels : (line text : List ℕ) → Type 0
HasLabels line text = (name : List ℕ) → stands_in (labels_of text) name ≡ true → stands_in (labels line) name ≡ true

-- so are those of its code
pub code_labels : (line text : List ℕ) → text ≡ before_comment line → HasLabels line text
code_labels line text is name has = subst (λ (t : List ℕ). stands_in (labels_of t) name ≡ true) is has

first_stands : (name : List ℕ) (others : List (List ℕ)) → stands_in (name ∷ others) name ≡ true
first_stands name others = rw ((bytes_eq-Decides name name).1 refl) refl

or_true : (a b : Bool) → b ≡ true → (a || b) ≡ true
or_true a b is = grind (arith, is)

module _ (line text name rest : List ℕ) (is : labels_of text ≡ name ∷ labels_of rest) (has : HasLabels line text) where
  -- the first label of the text is one of the line
  pub first_label : stands_in (labels line) name ≡ true
  first_label = has name (ap (λ (names : List (List ℕ)). stands_in names name) is ∙ first_stands name (labels_of rest))

  -- so are the others
  pub next_labels : HasLabels line rest
  next_labels other stands =
      has other (ap (λ (names : List (List ℕ)). stands_in names other) is ∙ or_true (bytes_eq name other) (stands_in (labels_of rest) other) stands)
