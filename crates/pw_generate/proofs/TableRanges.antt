-- The tables hold values in their ranges.
use Rattle.std.proofs.Common.{◌≡◌, ◌<◌, ◌≤◌, ◌&&◌, ℕ, Bool, true, false, cond, ltb, leb, List, [], ◌∷◌, length, refl, arith}
use Rattle.std.proofs.lemmas.Bool.{false≢true}
use Rattle.std.proofs.lemmas.Bool.Decides.{nat_tests}
use Rattle.std.specs.Prelude.{codes}
use Rattle.std.specs.List.{AllByRecursion}
use Rattle.aml_data.specs.Grammar.{IsAscii}
use Rattle.aml_data.specs.declared.data.Width.TheVariants.{W64}
use Rattle.acpi_values.specs.declared.lpi.EntryMethod.{EntryMethod}
use Rattle.acpi_values.specs.declared.lpi.EntryMethod.TheVariants as entry
use Rattle.acpi_values.specs.declared.lpi.LpiState.{LpiState}
use Rattle.acpi_idle.specs.Written.{IsEntryMethod, IsLpi, IsLpiState}
use Rattle.acpi_perf.specs.Written.{IsDependency, IsPState}
use Rattle.pw_generate.specs.Tables.{container_idle, cpu_domain, cpu_idle, cpu_perf, hardware_register, idle_state, perf_state}

-- # Texts

abbrev is_ascii : ℕ → Bool
is_ascii b = leb 1 b && ltb b 128

abbrev are_ascii : List ℕ → Bool
are_ascii [] = true
are_ascii (b ∷ bs) = cond (is_ascii b) (are_ascii bs) false

-- a text is that of a string, as its bytes tell
pub ascii : (bs : List ℕ) → are_ascii bs ≡ true → AllByRecursion IsAscii bs
ascii [] e = tt
ascii (b ∷ bs) e = step (is_ascii b) refl (ascii bs) e
  where
    one : is_ascii b ≡ true → IsAscii b
    one e = grind (arith, nat_tests)

    step : (t : Bool) → is_ascii b ≡ t → (are_ascii bs ≡ true → AllByRecursion IsAscii bs) → cond t (are_ascii bs) false ≡ true → AllByRecursion IsAscii (b ∷ bs)
    step true t more e = (one t, more e)
    step false t more e = absurd (false≢true e)

-- # Idle states

state_is : (a b c : ℕ) (e : EntryMethod) (name : List ℕ) → a < 65536 → b < 65536 → c < 65536 → IsEntryMethod W64 e → IsLpiState W64 (idle_state a b c e name)
state_is a b c e name x y z h = record {
  min_residency = omega (arith, x);
  wake_latency = omega (arith, y);
  flags = omega arith;
  lost = omega arith;
  frequency = omega arith;
  parent = omega (arith, z);
  entry = h;
  residency = omega arith;
  usage = omega arith;
}

pub container_idle_is : IsLpi W64 container_idle
unfolding container_idle
container_idle_is = record {
  level = omega arith;
  states = (
    state_is 1000 100 0 (entry.Integer 16) (codes "K1") (omega arith) (omega arith) (omega arith) (omega arith),
    (state_is 5000 500 0 (entry.Integer 32) (codes "K2") (omega arith) (omega arith) (omega arith) (omega arith), tt),
  );
}

pub cpu_idle_is : IsLpi W64 cpu_idle
unfolding cpu_idle
cpu_idle_is = record {
  level = omega arith;
  states = (
    state_is 100 10 0 (entry.Register (hardware_register 1)) (codes "S1") (omega arith) (omega arith) (omega arith) (omega arith),
    (
      state_is 500 50 1 (entry.Register (hardware_register 2)) (codes "S2") (omega arith) (omega arith) (omega arith) (omega arith),
      (state_is 2000 200 2 (entry.Register (hardware_register 3)) (codes "S3") (omega arith) (omega arith) (omega arith) (omega arith), tt),
    ),
  );
}

-- a name of two letters
abbrev pub IsShortName : LpiState → Type 0
IsShortName s = AllByRecursion IsAscii s.name × (length s.name ≤ 2)

pub container_names : AllByRecursion IsShortName container_idle.states
unfolding container_idle
container_names = ((ascii (codes "K1") refl, omega arith), ((ascii (codes "K2") refl, omega arith), tt))

pub cpu_names : AllByRecursion IsShortName cpu_idle.states
unfolding cpu_idle
cpu_names = ((ascii (codes "S1") refl, omega arith), ((ascii (codes "S2") refl, omega arith), ((ascii (codes "S3") refl, omega arith), tt)))

-- # Performance states

state_perf : (f p c : ℕ) → f < 65536 → p < 65536 → c < 65536 → IsPState (perf_state f p c)
state_perf f p c x y z = record {
  frequency = omega (arith, x);
  power = omega (arith, y);
  latency = omega arith;
  bus_latency = omega arith;
  control = omega (arith, z);
  status = omega (arith, z);
}

pub cpu_perf_is : AllByRecursion IsPState cpu_perf
unfolding cpu_perf
cpu_perf_is = (
  state_perf 2400 15000 16 (omega arith) (omega arith) (omega arith),
  (
    state_perf 2000 12000 17 (omega arith) (omega arith) (omega arith),
    (
      state_perf 1600 9000 18 (omega arith) (omega arith) (omega arith),
      (state_perf 1200 6000 19 (omega arith) (omega arith) (omega arith), tt),
    ),
  ),
)

pub cpu_domain_is : (c : ℕ) → c < 4096 → IsDependency (cpu_domain c)
unfolding cpu_domain
cpu_domain_is c lt = record { domain = omega arith; processors = omega arith }
