-- How histories begin.
use Rattle.std.proofs.Common.{List, [], ◌++◌, refl, sym, ap, ◌∙◌, append_assoc}
use Rattle.instructions.specs.Histories.{StartsWith}

module _ {A : Type 0} where
  pub starts_same : (h : List A) → StartsWith h h
  starts_same h = record { more = []; is = refl }

  pub starts_longer : (h point more : List A) → StartsWith h point → StartsWith (more ++ h) point
  starts_longer h point more s = record { more = more ++ s.more; is = ap (λ z. more ++ z) s.is ∙ sym (append_assoc more s.more point) }

  pub starts_on : (a b c : List A) → StartsWith b a → StartsWith c b → StartsWith c a
  starts_on a b c s t = record { more = t.more ++ s.more; is = t.is ∙ (ap (λ z. t.more ++ z) s.is ∙ sym (append_assoc t.more s.more a)) }
