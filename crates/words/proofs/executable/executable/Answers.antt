use Rattle.std.proofs.Common.{◌≡◌, ◌-◌, ◌++◌, ◌∙◌, Ok, ap, length, replicate, subst, sym}
use Rattle.elf.specs.Placing.{loaded_from}
use Rattle.disassembly.specs.Meaning.{meant_up_to}
use Rattle.words.proofs.Faithful.{faithful}
use Rattle.words.proofs.executable.executable.Goals as goal

pub returns-then-has_loaded : goal.returns-then-has_loaded
returns-then-has_loaded c =
    let held = c.has_loaded.ensures c.if-has_loaded.true in
    faithful c.args.program.now c.in_ok-file.file.items c.args.words.now c.in_ok-image.image c.in_ok-_code._code.items c.requires.words
    (ap loaded_from (sym c.as_slice.ensures.value) ∙ c.in_ok-image.ensures.ok)
    (subst (λ ws. meant_up_to ws (length ws) ≡ Ok c.in_ok-_code._code.items) c.code.ensures.value c.in_ok-_code.ensures.ok) held.0
    (held.1 ∙ c.as_slice-2.ensures.value ∙ c.in_ok-memory.ensures ∙ ap (λ b. b ++ replicate (65536 - length b) 0) c.bytes-2.ensures.value)
