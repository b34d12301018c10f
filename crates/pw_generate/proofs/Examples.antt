-- A small machine and its load, by computation alone.
use Rattle.std.proofs.Common.{◌≡◌, [], ◌∷◌, map, take, refl}
use Rattle.std.specs.Prelude.{codes}
use Rattle.pw_plan.specs.declared.request.Request.TheVariants.{Idle, Wake, Perf, PerfLimit}
use Rattle.pw_model.specs.States.{any_latency}
use Rattle.pw_script.specs.Reading.{requests_of}
use Rattle.pw_generate.specs.Loads.{load_lines, load_request}
use Rattle.pw_generate.specs.Machines.{container_term, cpus_of, from_root, machine_block}
use Rattle.pw_generate.specs.Names.{container_name, cpu_name}
use Rattle.aml_block.specs.declared.term.Term.TheVariants.{Scope}

first_round : take 8 (requests_of (load_lines 8))
    ≡ Idle 0 1 any_latency ∷ Perf 1 3 ∷ Perf 2 2 ∷ Idle 3 4 any_latency ∷ Idle 4 3 any_latency ∷ Wake 5 ∷ PerfLimit 6 0 ∷ PerfLimit 7 3 ∷ []
unfolding load_request
first_round = refl

second_round : load_request 1 0 ≡ PerfLimit 0 1
unfolding load_request
second_round = refl

numbers : take 9 (map (λ l. l.number) (load_lines 8)) ≡ 1 ∷ 2 ∷ 3 ∷ 4 ∷ 5 ∷ 6 ∷ 7 ∷ 8 ∷ 9 ∷ []
numbers = refl

one_container : (machine_block 1).terms ≡ Scope (from_root (codes "_SB_")) (container_term 0 ∷ []) ∷ []
unfolding machine_block
one_container = refl

its_name : container_name 0 ≡ codes "CL00"
its_name = refl

its_cpus : map cpu_name (cpus_of 0) ≡ codes "P000" ∷ codes "P001" ∷ codes "P002" ∷ codes "P003" ∷ codes "P004" ∷ codes "P005" ∷ codes "P006" ∷ codes "P007" ∷ []
its_cpus = refl

last_container : container_name 31 ≡ codes "CL1F"
last_container = refl

last_cpus : map cpu_name (cpus_of 31) ≡ codes "P0F8" ∷ codes "P0F9" ∷ codes "P0FA" ∷ codes "P0FB" ∷ codes "P0FC" ∷ codes "P0FD" ∷ codes "P0FE" ∷ codes "P0FF" ∷ []
last_cpus = refl
