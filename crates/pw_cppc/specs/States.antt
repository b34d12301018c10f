-- What processors ask of their performance, and where domains stand (ACPI 6.5, 8.3 and 8.4.6.1.2).
use Rattle.std.specs.Prelude.{◌≡◌, ℕ, max, min, List, map, fold, length, slice_index_or, slice_set, if◌then◌else◌}
use Rattle.pw_plan.specs.Groups.{is_software}
use Rattle.pw_cppc.specs.declared.plan.CppcPlan.{CppcPlan}
use Rattle.pw_cppc.specs.declared.request.CppcRequest.{CppcRequest}
use Rattle.pw_cppc.specs.declared.request.CppcRequest.TheVariants.{Desired, Minimum, Maximum}
use Rattle.pw_cppc.specs.Parts.{highest_of, lowest_of}
use Rattle.pw_cppc.specs.Planning.{domain_at, domain_of}
use Rattle.pw_cppc.specs.declared.numbers.CppcNumbers.{CppcNumbers}

-- # The numbers of processors

abbrev pub ask_of : CppcNumbers → ℕ → ℕ
ask_of S p = slice_index_or S.asks p 0

abbrev pub minimum_of : CppcNumbers → ℕ → ℕ
minimum_of S p = slice_index_or S.minima p 0

abbrev pub maximum_of : CppcNumbers → ℕ → ℕ
maximum_of S p = slice_index_or S.maxima p 0

-- Each processor asks for its highest performance, within its lowest and its highest.
unfoldable pub opening : CppcPlan → CppcNumbers
opening P = record { asks = map highest_of P.cpus; minima = map lowest_of P.cpus; maxima = map highest_of P.cpus }

-- the numbers with that of an accepted request changed
abbrev pub changed : CppcNumbers → CppcRequest → CppcNumbers
changed S (Desired p v) = record S { asks = slice_set S.asks p v }
changed S (Minimum p v) = record S { minima = slice_set S.minima p v }
changed S (Maximum p v) = record S { maxima = slice_set S.maxima p v }

-- the number that the request would change
abbrev pub number_of : CppcNumbers → CppcRequest → ℕ
number_of S (Desired p v) = ask_of S p
number_of S (Minimum p v) = minimum_of S p
number_of S (Maximum p v) = maximum_of S p

-- # Where a domain stands

-- above every performance, which is a number of 64 bits
unfoldable pub any_performance : ℕ
any_performance = 18446744073709551615

-- what is asked for and the least that is allowed, but no more than the most that is allowed. A greater number is faster
abbrev pub within : ℕ → ℕ → ℕ → ℕ
within ask minimum maximum = min maximum (max minimum ask)

-- where members with these asks, minima and maxima stand together: at the greatest ask or the greatest minimum, or at the least
-- maximum where that is less
abbrev pub stands_at : List ℕ → List ℕ → List ℕ → ℕ
stands_at asks minima maxima = within (fold max 0 asks) (fold max 0 minima) (fold min any_performance maxima)

-- where domain d stands, or in a domain that hardware coordinates its member p
abbrev pub standing : CppcPlan → CppcNumbers → ℕ → ℕ → ℕ
standing P S d p =
    let domain = domain_at P d in
    if is_software domain.coord
    then stands_at (map (ask_of S) domain.members) (map (minimum_of S) domain.members) (map (maximum_of S) domain.members)
    else within (ask_of S p) (minimum_of S p) (maximum_of S p)

-- where processor p's domain stands, or where hardware coordinates it p
abbrev pub stands : CppcPlan → CppcNumbers → ℕ → ℕ
stands P S p = standing P S (domain_of P p) p

-- # Which numbers are of a plan

-- There is a number of 64 bits for each processor in each list.
pub record AreNumbers (P : CppcPlan) (S : CppcNumbers) : Type 0 where
  pub asks : length S.asks ≡ length P.cpus
  pub minima : length S.minima ≡ length P.cpus
  pub maxima : length S.maxima ≡ length P.cpus
