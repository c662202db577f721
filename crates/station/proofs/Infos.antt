-- An info word elsewhere.
use Rattle.std.proofs.Common.{◌≡◌, ◌≢◌, ℕ, List, ◌∷◌, Some, cond, sym, ap, subst, ne_eqb}
use Rattle.inorder.specs.History.{unit_of}
use Rattle.inorder.specs.StationWords.{last_of}
use Rattle.inorder.specs.Steps.{new_tenant}
use Rattle.inorder.specs.Tenants.{Tenant}
use Rattle.inorder.specs.Unit.{recent}
use Rattle.ruu_words.specs.declared.rule.Draft.{Draft}
use Rattle.ruu_words.specs.declared.rule.Draft.TheVariants.{Nothing, Of}
use Rattle.ruu_words.specs.Content.{info_unit}
use Rattle.station.specs.Looking.{ShowsInfo}
use Rattle.station.specs.Infos.{InfosElsewhere}

skip : (t : Tenant) (ts : List Tenant) (s : ℕ) → t.station ≢ s → last_of (t ∷ ts) s ≡ last_of ts s
skip t ts s ne = ap (λ b. cond b (Some t) (last_of ts s)) (ne_eqb t.station s ne)

pub infos_elsewhere : InfosElsewhere
infos_elsewhere P C h s index predicted half ne sees = go sees.draft sees.shows
  where
    go : (d : Draft) → ShowsInfo (last_of (recent (info_unit P C (unit_of P C h) d)) s) index half predicted → ShowsInfo (last_of (recent (unit_of P C h)) s) index half predicted
    go Nothing x = x
    go (Of stage i p f g) x =
        subst (λ o. ShowsInfo o index half predicted) (skip (new_tenant P C (unit_of P C h) i p f g) (recent (unit_of P C h)) s (λ e. ne (sym e))) x
