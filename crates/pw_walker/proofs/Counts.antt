-- How many children a container has at most.
use Rattle.std.proofs.Common.{◌≡◌, ◌<◌, ◌≤◌, ℕ, List, [], length, map, get_or, ap, ◌∙◌, arith, length-append}
use Rattle.std.specs.List.{range_with_len}
use Rattle.std.proofs.Math.Bridge.{le_prop}
use Rattle.std.proofs.Math.Logic.{∥∥₁_elim}
use Rattle.std.proofs.lemmas.List.{get_or-map, length-map}
use Rattle.std.proofs.lemmas.List.FromFn.{length-range_with_len}
use Rattle.pw_plan.specs.declared.domain.Child.{Child}
use Rattle.pw_plan.specs.declared.domain.Child.TheVariants.{Cpu, Container}
use Rattle.pw_plan.specs.declared.parts.ContainerParts.{ContainerParts}
use Rattle.pw_plan.specs.declared.parts.CpuParts.{CpuParts}
use Rattle.pw_plan.specs.declared.plan.Plan.{Plan}
use Rattle.pw_plan.specs.Places.{children_at}
use Rattle.pw_plan.specs.Tree.{children_of, is_number, places_from}
use Rattle.pw_plan.proofs.Lists.{places-length}

few_of : (cs : List ContainerParts) (ps : List CpuParts) (n : ℕ) → length cs ≤ 256 → length ps ≤ 256 → length (children_of cs ps n) ≤ 512
few_of cs ps n a b =
    let ms = places_from (λ (c : ContainerParts). is_number n c.parent) 0 cs in
    let qs = places_from (λ (c : CpuParts). is_number n c.parent) 0 ps in
    let c = places-length (λ (c : ContainerParts). is_number n c.parent) 0 cs in
    let d = places-length (λ (c : CpuParts). is_number n c.parent) 0 ps in
    let e = length-append (map (λ m. Container m) ms) (map (λ p. Cpu p) qs) in
    let f = length-map ms (λ (m : ℕ). Container m) in
    let g = length-map qs (λ (p : ℕ). Cpu p) in
    omega (arith, a, b, c, d, e, f, g)

pub children_few : (P : Plan) (n : ℕ) → n < length P.containers → length (children_at P n) ≤ 512
children_few P n lt = ∥∥₁_elim P.planned (hlevel (le_prop)) (λ plan.
    let k = length P.containers in
    let at : children_at P n ≡ children_of P.containers P.cpus (get_or (range_with_len 0 k) n 0) =
    ap (λ (xs : List (List Child)). get_or xs n []) plan.children_are
    ∙ get_or-map (children_of P.containers P.cpus) (range_with_len 0 k) n 0 [] (let l = length-range_with_len 0 k in omega (arith, l, lt)) in
    let few = few_of P.containers P.cpus (get_or (range_with_len 0 k) n 0) P.sound.small.containers P.sound.small.cpus in
    rw at few)
