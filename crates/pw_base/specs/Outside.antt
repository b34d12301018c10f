-- The outside: counts of faults, files and sinks.
use Rattle.std.specs.Prelude.{◌≡◌, ◌<◌, ◌≤◌, ℕ, Bool, List, ◌++◌, length, take, drop, Option}

-- A count of faults rose in a call: it is greater after the call, or stands at the last value of its counter.
abbrev pub Rose : ℕ → ℕ → Type 0
Rose old new = new < 18446744073709551615 → old < new

-- What no call of files changes: whether they tell, and what each name holds; and no name's count falls.
pub record KeepsFiles {S : Type 0} (told : S → Bool) (holds : S → List ℕ → Option (List ℕ)) (faults : S → List ℕ → ℕ) (old new : S)
    : Type 0 where
  pub same_told : told new ≡ told old
  pub same_content : (name : List ℕ) → holds new name ≡ holds old name
  pub count : (name : List ℕ) → faults old name ≤ faults new name

-- What no call of a sink changes: whether it tells; and a count never falls.
pub record KeepsSink {S : Type 0} (told : S → Bool) (faults : S → ℕ) (old new : S) : Type 0 where
  pub same_told : told new ≡ told old
  pub count : faults old ≤ faults new

-- The first n bytes of a buffer are those of a content from a place on. There are none only at or past its end.
pub record IsRead (content : List ℕ) (at n : ℕ) (buffer : List ℕ) : Type 0 where
  pub bytes : take n buffer ≡ take n (drop at content)
  pub within : n ≤ length (drop at content)
  pub some : 0 < length buffer → n ≡ 0 → length content ≤ at

-- One list is another, followed by a beginning of a text.
abbrev pub GrewByPart : List ℕ → List ℕ → List ℕ → Type 0
GrewByPart old new text = (n : ℕ) × (new ≡ old ++ take n text)
