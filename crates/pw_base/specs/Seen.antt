-- What a call sees of the outside at one moment: files by name, and what a sink took.
use Rattle.std.specs.Prelude.{◌≡◌, ℕ, Bool, true, List, ◌++◌, Option}
use Rattle.std.proofs.Common.{◌⊎◌}
use Rattle.pw_base.specs.declared.files.Files.{Ghosts as Files}
use Rattle.pw_base.specs.declared.sink.Sink.{Ghosts as Sink}
use Rattle.pw_base.specs.Outside.{Rose, GrewByPart}

-- files at one moment: whether they tell, what each name holds, and how often reads of it failed
pub record FilesSeen : Type 0 where
  pub told : Bool
  pub holds : List ℕ → Option (List ℕ)
  pub faults : List ℕ → ℕ

-- a sink at one moment: whether it tells, what it took, and how often it failed
pub record SinkSeen : Type 0 where
  pub told : Bool
  pub written : List ℕ
  pub faults : ℕ

-- what is seen of files of some type, of which `F.Files` says what they tell, hold and count
abbrev pub files_seen : {S : Type 0} → Files S → S → FilesSeen
files_seen by s = record { told = by.told s; holds = by.holds s; faults = by.faults s }

-- what is seen of a sink of some type, of which `K.Sink` says what it tells, took and counts
abbrev pub sink_seen : {S : Type 0} → Sink S → S → SinkSeen
sink_seen by s = record { told = by.told s; written = by.written s; faults = by.faults s }

-- where the files tell, this holds of what they hold
abbrev pub OfFiles : FilesSeen → ((List ℕ → Option (List ℕ)) → Type 0) → Type 0
OfFiles files P = files.told ≡ true → P files.holds

-- where the sink tells, it grew by a text
abbrev pub Grew : SinkSeen → SinkSeen → List ℕ → Type 0
Grew old new text = old.told ≡ true → new.written ≡ old.written ++ text

-- where the sink tells, it grew by a line, or by a beginning of it where its count rose
abbrev pub GrewByLine : SinkSeen → SinkSeen → List ℕ → Type 0
GrewByLine old new line =
    old.told ≡ true → (new.written ≡ old.written ++ line) ⊎ (Rose old.faults new.faults × GrewByPart old.written new.written line)
