-- Bytes that bytes of 0 follow.
use Rattle.std.proofs.Common.{◌≡◌, ℕ, ◌-◌, ◌≤◌, List, ◌++◌, length, take, take_all, replicate, ap, ap₂, ◌∙◌}

pub padded_by : (bytes items new : List ℕ) (len : ℕ) → new ≡ take 65536 items ++ replicate (65536 - len) 0 → items ≡ bytes → len ≡ length bytes →
    length bytes ≤ 65536 → new ≡ bytes ++ replicate (65536 - length bytes) 0
padded_by bytes items new len is same long few =
    is ∙ ap₂ (λ l n. take 65536 l ++ replicate (65536 - n) 0) same long ∙ ap (λ l. l ++ replicate (65536 - length bytes) 0) (take_all 65536 bytes few)
