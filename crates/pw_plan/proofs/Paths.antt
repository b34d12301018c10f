-- Paths in order: one that comes after the greatest of some is none of them.
use Rattle.std.proofs.Common.{◌≡◌, ◌≢◌, ℕ, Bool, true, false, List, ap, refl}
use Rattle.std.specs.Cmp.{IsTotalOrder, tied_itself}
use Rattle.std.specs.Cmp.Lexicographic.{lists_total, nat_list_cmp_total, slice_cmp}
use Rattle.std.specs.Ordering.{is_lt, nat_cmp}
use Rattle.std.specs.declared.cmp.Ordering.{Ordering}
use Rattle.std.specs.declared.cmp.Ordering.TheVariants.{Less, Equal, Greater}
use Rattle.aml_data.specs.declared.path.FullPath.{FullPath}
use Rattle.pw_plan.specs.inner.Paths.{is_path_before}

path_order : IsTotalOrder (slice_cmp (slice_cmp nat_cmp))
path_order = lists_total nat_list_cmp_total

less : (o : Ordering) → is_lt o ≡ true → o ≡ Less
less Less e = refl
less Equal e = absurd (cc)
less Greater e = absurd (cc)

pub path_itself : (x : List (List ℕ)) → is_path_before x x ≡ false
path_itself x = ap is_lt (tied_itself path_order x)

through : (x y z : List (List ℕ)) → is_path_before x y ≡ true → is_path_before y z ≡ true → is_path_before x z ≡ true
through x y z e f = ap is_lt (path_order.trans x y z (less (slice_cmp (slice_cmp nat_cmp) x y) e) (less (slice_cmp (slice_cmp nat_cmp) y z) f))

-- a path before none of some, and one after it: that one comes before none of them
pub path_tops : (g x y : List (List ℕ)) → is_path_before g x ≡ true → is_path_before g y ≡ false → is_path_before x y ≡ false
path_tops g x y after tops = step (is_path_before x y) refl
  where
    step : (b : Bool) → is_path_before x y ≡ b → b ≡ false
    step true h = let k = through g x y after h in cc
    step false h = refl

-- and is none of them
pub path_new : (g : List (List ℕ)) (x y : FullPath) → is_path_before g x.segs ≡ true → is_path_before g y.segs ≡ false → y ≢ x
path_new g x y after tops e = let k = ap (λ (z : FullPath). is_path_before g z.segs) e in absurd (cc)
