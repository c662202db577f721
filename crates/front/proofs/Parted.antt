-- The path in two parts: the tenants let before the last renewal, and those let since.
use Rattle.std.proofs.Common.{◌≡◌, ℕ, zero, suc, ◌+◌, ◌%◌, ◌<◌, Bool, true, false, cond, List, [], ◌∷◌, ◌++◌, length, refl, sym, ap, ◌∙◌, subst, arith, append_assoc, length-append}
use Rattle.std.proofs.lemmas.List.{append-nil}
use Rattle.std.specs.List.{AllByRecursion}
use Rattle.instructions.specs.Programs.{Program}
use Rattle.inorder.specs.Tenants.{Tenant, on_path}
use Rattle.inorder.specs.Unit.{Sizes, how_many, newest_of}
use Rattle.inorder.proofs.Positions.{at_below}
use Rattle.inorder.proofs.Stations.{ArePlaced}
use Rattle.inorder.proofs.Tags.{passed}
use Rattle.front.specs.Trail.{Note, note, trail}
use Rattle.front.proofs.Lists.{all_map, head_of, tail_of}
use Rattle.front.proofs.Trails.{ArePlacedFrom, IsNoted, placed_last, trail_noted, trail_off, trail_on}

-- Each part of the path. The stations of the second are counted from 0
pub record IsParted (P : Program) (C : Sizes) (n : ℕ) (ts : List Tenant) : Type 0 where
  pub olds : List Note
  pub news : List Note
  pub path : trail P ts ≡ olds ++ news
  pub before : AllByRecursion (λ x. x.at < length (passed n ts)) olds
  pub count : how_many on_path (newest_of n ts) ≡ length news
  pub placed : ArePlacedFrom C.ring 0 news

pub parted : (P : Program) (C : Sizes) (n : ℕ) (ts : List Tenant) → ArePlaced C (newest_of n ts) → IsParted P C n ts
parted P C zero ts a = record {
  olds = trail P ts;
  news = [];
  path = sym (append-nil (trail P ts));
  before = all_map (IsNoted P ts) (λ x. x.at < length ts) (λ x i. at_below ts x.at i.tenant i.is) (trail P ts) (trail_noted P ts);
  count = refl;
  placed = tt;
}
parted P C (suc n) [] a = record { olds = []; news = []; path = refl; before = tt; count = refl; placed = tt }
parted P C (suc n) (t ∷ ts) a = go (on_path t) refl (parted P C n ts a.1)
  where
    go : (b : Bool) → on_path t ≡ b → IsParted P C n ts → IsParted P C (suc n) (t ∷ ts)
    go true e more =
        let few = how_many on_path (newest_of n ts) in
        let here : few ≡ 0 + length more.news = omega (arith, more.count) in
        let long = length-append more.news (note P ts t ∷ []) in
        let all : suc few ≡ length (more.news ++ note P ts t ∷ []) = omega (arith, long, more.count) in
        record {
          olds = more.olds;
          news = more.news ++ note P ts t ∷ [];
          path = trail_on P t ts e ∙ (ap (λ z. z ++ note P ts t ∷ []) more.path ∙ append_assoc more.olds more.news (note P ts t ∷ []));
          before = more.before;
          count = ap (λ b. cond b (suc few) few) e ∙ all;
          placed = placed_last C.ring 0 more.news (note P ts t) more.placed (a.0 e ∙ ap (λ z. z % C.ring) here);
        }
    go false e more =
        let few = how_many on_path (newest_of n ts) in
        record {
          olds = more.olds;
          news = more.news;
          path = trail_off P t ts e ∙ more.path;
          before = more.before;
          count = ap (λ b. cond b (suc few) few) e ∙ more.count;
          placed = more.placed;
        }

-- A list that is cut at two places: none of its first part is of its last
pub record IsCutTwice (xs ys olds news : List Note) : Type 0 where
  pub middle : List Note
  pub front : xs ≡ olds ++ middle
  pub rest : news ≡ middle ++ ys

pub cut_twice : (Q R : Note → Type 0) → ((n : Note) → Q n → R n → ⊥) → (xs ys olds news : List Note) → xs ++ ys ≡ olds ++ news
    → AllByRecursion Q olds → AllByRecursion R ys → IsCutTwice xs ys olds news
cut_twice Q R never xs ys [] news e q r = record { middle = xs; front = refl; rest = sym e }
cut_twice Q R never [] ys (z ∷ olds) news e q r =
    let all : AllByRecursion R (z ∷ (olds ++ news)) = subst (AllByRecursion R) e r in
    absurd (never z q.0 all.0)
cut_twice Q R never (x ∷ xs) ys (z ∷ olds) news e q r =
    let more = cut_twice Q R never xs ys olds news (tail_of x z (xs ++ ys) (olds ++ news) e) q.1 r in
    record {
      middle = more.middle;
      front = λ i. head_of x z (xs ++ ys) (olds ++ news) e i ∷ more.front i;
      rest = more.rest;
    }
