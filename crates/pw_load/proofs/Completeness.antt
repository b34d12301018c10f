-- What must come of a command's work, want of memory aside.
use Rattle.std.proofs.Common.{◌≡◌, ℕ, List, [], inl, inr, ◌⊎◌, refl, subst}
use Rattle.pw_base.specs.Outside.{Rose}
use Rattle.pw_base.specs.Seen.{Grew, GrewByLine}
use Rattle.pw_load.specs.Seen.{Outputs}
use Rattle.pw_load.specs.Ends.{Work, Does, EndedSo, EndedWell}
use Rattle.pw_load.specs.Ends.Stops.{refused, read_fault, without_memory}
use Rattle.pw_load.specs.Ends.Prints.{whole, write_fault, cut}
use Rattle.pw_load.specs.Ends.Does.{stopped, printed}

-- A command has one text, or is refused in one way.
pub record IsOne (work : Work) : Type 0 where
  pub texts : (a b : List ℕ) → work.text a → work.text b → a ≡ b
  pub refusals : (s t : ℕ) (a b : List ℕ) → work.refusal s a → work.refusal t b → (s ≡ t) × (a ≡ b)
  pub apart : (status : ℕ) (text line : List ℕ) → work.text text → work.refusal status line → ⊥

-- It is refused in one way, and only where it has no text.
pub record IsJudged (work : Work) : Type 0 where
  pub refusals : (s t : ℕ) (a b : List ℕ) → work.refusal s a → work.refusal t b → (s ≡ t) × (a ≡ b)
  pub apart : (status : ℕ) (text line : List ℕ) → work.text text → work.refusal status line → ⊥

pub judged_of : (work : Work) → IsOne work → IsJudged work
judged_of work one = record { refusals = one.refusals; apart = one.apart }

-- where there is a text, one is printed, if the output doesn't fail
pub so_printed : {work : Work} {before after : Outputs} {status : ℕ} {written line : List ℕ} (text : List ℕ) → IsJudged work → (work.read_fault → ⊥)
    → (Rose before.out.faults after.out.faults → ⊥) → work.text text → Does work before after status written line
    → Grew before.out after.out written → GrewByLine before.err after.err line → EndedWell work before after status ⊎ (status ≡ 6)
so_printed text judged read_fault-never none is (stopped (refused r)) grew said = absurd (judged.apart _ _ _ is r)
so_printed text judged read_fault-never none is (stopped (read_fault u)) grew said = absurd (read_fault-never u)
so_printed text judged read_fault-never none is (stopped without_memory) grew said = inr refl
so_printed text judged read_fault-never none is (printed made whole) grew said =
    inl (record { text = _; made = made; so = record { is = refl; on_out = grew; on_err = said } })
so_printed text judged read_fault-never none is (printed made (write_fault n rose)) grew said = absurd (none rose)
so_printed text judged read_fault-never none is (printed made (cut n pieces)) grew said = inr refl

-- what is to be refused is refused
pub so_refused : {work : Work} {before after : Outputs} {status : ℕ} {written line : List ℕ} (so : ℕ) (said_so : List ℕ) → IsJudged work → (work.read_fault → ⊥)
    → work.refusal so said_so → Does work before after status written line
    → Grew before.out after.out written → GrewByLine before.err after.err line → EndedSo before after status so [] said_so ⊎ (status ≡ 6)
so_refused {before = before} {after = after} so said_so judged read_fault-never is (stopped (refused r)) grew said =
    let same = judged.refusals _ _ _ _ r is in
    inl (record { is = same.0; on_out = grew; on_err = subst (λ (l : List ℕ). GrewByLine before.err after.err l) same.1 said })
so_refused so said_so judged read_fault-never is (stopped (read_fault u)) grew said = absurd (read_fault-never u)
so_refused so said_so judged read_fault-never is (stopped without_memory) grew said = inr refl
so_refused so said_so judged read_fault-never is (printed made how) grew said = absurd (judged.apart _ _ _ made is)

-- what isn't to be printed is refused
pub so_unprinted : {work : Work} {before after : Outputs} {status : ℕ} {written line : List ℕ} → (work.read_fault → ⊥)
    → ((text : List ℕ) → work.text text → ⊥) → Does work before after status written line → ((said : List ℕ) × work.refusal status said) ⊎ (status ≡ 6)
so_unprinted read_fault-never none (stopped (refused r)) = inl (_, r)
so_unprinted read_fault-never none (stopped (read_fault u)) = absurd (read_fault-never u)
so_unprinted read_fault-never none (stopped without_memory) = inr refl
so_unprinted read_fault-never none (printed made how) = absurd (none _ made)

-- what is to be printed is printed as far as can be
pub so_printable : {work : Work} {before after : Outputs} {status : ℕ} {written line : List ℕ} (text : List ℕ) → IsJudged work → (work.read_fault → ⊥)
    → work.text text → Does work before after status written line → (status ≡ 0) ⊎ (status ≡ 4) ⊎ (status ≡ 6)
so_printable text judged read_fault-never is (stopped (refused r)) = absurd (judged.apart _ _ _ is r)
so_printable text judged read_fault-never is (stopped (read_fault u)) = absurd (read_fault-never u)
so_printable text judged read_fault-never is (stopped without_memory) = inr (inr refl)
so_printable text judged read_fault-never is (printed made whole) = inl refl
so_printable text judged read_fault-never is (printed made (write_fault n rose)) = inr (inl refl)
so_printable text judged read_fault-never is (printed made (cut n pieces)) = inr (inr refl)
