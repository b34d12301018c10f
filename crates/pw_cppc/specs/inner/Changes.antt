-- Which requests numbers can take.
use Rattle.std.specs.Prelude.{◌<◌, ℕ, length, slice_set}
use Rattle.pw_cppc.specs.declared.request.CppcRequest.{CppcRequest}
use Rattle.pw_cppc.specs.declared.request.CppcRequest.TheVariants.{Desired, Minimum, Maximum}
use Rattle.pw_cppc.specs.declared.numbers.CppcNumbers.{CppcNumbers}

-- the lists have the processor
abbrev pub CanChange : CppcNumbers → CppcRequest → Type 0
CanChange S (Desired p v) = p < length S.asks
CanChange S (Minimum p v) = p < length S.minima
CanChange S (Maximum p v) = p < length S.maxima

-- the numbers with n where the request would write its own
abbrev pub with_number : CppcNumbers → CppcRequest → ℕ → CppcNumbers
with_number S (Desired p v) n = record S { asks = slice_set S.asks p n }
with_number S (Minimum p v) n = record S { minima = slice_set S.minima p n }
with_number S (Maximum p v) n = record S { maxima = slice_set S.maxima p n }
