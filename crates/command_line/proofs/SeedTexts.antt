-- The texts of seeds.
use Rattle.std.proofs.Common.{◌≡◌, ◌^◌, ◌-◌, sym, subst, true, Option, Some, None, is_some, option_map}
use Rattle.std.proofs.lemmas.Bool.{false≢true}
use denote.Ref.{Bor}
use Rattle.clap.specs.Words.{Text}
use Rattle.command_line.specs.Values.{IsNoNumberFrom, IsNoSeed}

no_seed : (text : Text) → IsNoNumberFrom 0 (2 ^ 64 - 1) 0 (Some text) → IsNoSeed (Some text)
no_seed text none None is = is
no_seed text none (Some n) is = none n is

-- a text that is no number is none
pub of_no_number : (found : Option (Bor Text)) (text : Option Text) → option_map (λ s. s.now) found ≡ text
    → is_some found ≡ true → IsNoNumberFrom 0 (2 ^ 64 - 1) 0 text → IsNoSeed text
of_no_number None text is some number = absurd (false≢true some)
of_no_number (Some s) text is some number = subst IsNoSeed is (no_seed s.now (subst (IsNoNumberFrom 0 (2 ^ 64 - 1) 0) (sym is) number))
