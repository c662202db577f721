-- What was so at one moment of a call was so at one of a longer call.
use Rattle.std.proofs.Common.{List}
use Rattle.instructions.specs.Programs.{Program}
use Rattle.inorder.specs.declared.history.Entry.{Entry}
use Rattle.inorder.specs.History.{unit_of}
use Rattle.instructions.specs.Histories.{StartsWith}
use Rattle.inorder.specs.Unit.{Sizes, UpdateUnit}
use Rattle.instructions.proofs.Histories.{starts_on, starts_same}
use Rattle.station.specs.Moments.{WasOnce}

pub once_now : (P : Program) (C : Sizes) (old new : List Entry) (Fact : UpdateUnit → Type 0) → StartsWith new old → Fact (unit_of P C new) → WasOnce P C old new Fact
once_now P C old new Fact s f = record { point = new; within = record { before_return = starts_same new; behind_call = s }; fact = f }

pub once_later : (P : Program) (C : Sizes) (old mid new : List Entry) (Fact : UpdateUnit → Type 0) → StartsWith new mid → WasOnce P C old mid Fact → WasOnce P C old new Fact
once_later P C old mid new Fact s w = record {
  point = w.point;
  within = record { before_return = starts_on w.point mid new w.within.before_return s; behind_call = w.within.behind_call };
  fact = w.fact;
}

pub once_earlier : (P : Program) (C : Sizes) (old mid new : List Entry) (Fact : UpdateUnit → Type 0) → StartsWith mid old → WasOnce P C mid new Fact → WasOnce P C old new Fact
once_earlier P C old mid new Fact s w = record {
  point = w.point;
  within = record { before_return = w.within.before_return; behind_call = starts_on old mid w.point s w.within.behind_call };
  fact = w.fact;
}
