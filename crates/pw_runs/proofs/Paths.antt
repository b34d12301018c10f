-- The processors of a plan that blocks in files make have paths of segments.
use Rattle.std.proofs.Common.{◌≡◌, ℕ, zero, suc, ◌+◌, ◌-◌, ◌==◌, Bool, true, false, cond, List, [], ◌∷◌, ◌++◌, length, take, map, filter, ◌||◌, ◌&&◌, Option, Some, None, Ok, refl, sym, subst}
use Rattle.std.specs.Prelude.{All}
use Rattle.std.specs.List.{AllByRecursion}
use Rattle.std.proofs.lemmas.List.Elements.{All-cons, All-head, All-nil, All-tail}
use Rattle.pw_base.specs.Seen.{FilesSeen}
use Rattle.aml_data.specs.Segment.{IsSegment}
use Rattle.aml_data.specs.declared.data.Width.{Width}
use Rattle.aml_data.specs.declared.path.Path.{Path}
use Rattle.aml_block.specs.declared.opcode.TheConstants.{METHOD_OP}
use Rattle.aml_block.specs.declared.term.Term.{Term, Term-F, out-Term}
use Rattle.aml_block.specs.declared.term.Term.TheOpen as layer
use Rattle.aml_block.specs.WrittenTerms.{AreWritable, IsWritableLayer, IsWritableTerm}
use Rattle.aml_block.specs.declared.block.Block.{Block}
use Rattle.aml_block.specs.Written.{IsWritableBlock}
use Rattle.aml_block.proofs.WrittenBlocks.{block_writable}
use Rattle.acpi_values.specs.declared.dependency.CDependency.{CDependency}
use Rattle.acpi_values.specs.declared.idle.IdleTable.{IdleTable}
use Rattle.acpi_values.specs.declared.performance.Cpc.{Cpc}
use Rattle.acpi_space.specs.Lookup.{entry_in, no_entry, path_in}
use Rattle.acpi_space.specs.Namespace.{Entry, block_turn, entries_in, entries_of, width_among}
use Rattle.acpi_space.specs.Places.{Place, found, is_known, is_single, opened, place_of, up}
use Rattle.acpi_space.specs.Steps.{Step, Sized, in_order, method_steps, never_runs, passes, steps_in, steps_of, touched}
use Rattle.acpi_space.specs.Things.{Thing}
use Rattle.acpi_space.specs.Things.Thing.{data_object, device, processor, method, alias_of}
use Rattle.acpi_space.specs.inner.Naming.{named_by}
use Rattle.acpi_space.proofs.TermSteps.{steps-layer}
use Rattle.acpi_build.specs.declared.fault.ObjectFault.{ObjectFault}
use Rattle.acpi_build.specs.declared.note.Note.{Note}
use Rattle.acpi_build.specs.Building.{◌>>=◌, Build, Made, Remarks, after, built, done, each, noting}
use Rattle.acpi_build.specs.Finding.{containers_of, has_id, is_declared, is_device, is_processor, numbers_of, parent_of, processor_id, processors_of}
use Rattle.acpi_build.specs.Machine.{Parts, container_parts, cpu_parts, idle_of, parts_of, perf_of, throttle_of}
use Rattle.acpi_build.specs.Planning.{first_fault, judged, parts_within, unless, within}
use Rattle.acpi_build.specs.Tables.{cpc_at}
use Rattle.pw_plan.specs.declared.fault.PlanFault.{PlanFault}
use Rattle.pw_plan.specs.declared.fault.PlanFault.TheVariants as limits
use Rattle.pw_plan.specs.Limits.{limit_passed}
use Rattle.pw_plan.specs.declared.parts.Scale.{Scale}
use Rattle.pw_plan.specs.declared.parts.CpuParts.{CpuParts}
use Rattle.pw_plan.specs.declared.plan.Plan.{Plan}
use Rattle.pw_plan.proofs.Lists.{each_append}
use Rattle.aml_block.specs.Held.{AreBlocks, no_block, one_block}
use Rattle.pw_script.specs.Telling.{HasSegments, IsOfSegments}
use Rattle.pw_runs.specs.Runs.{ArePlanned}

-- # Places

abbrev OfSegments : Place → Type 0
OfSegments place = AllByRecursion IsSegment place

pick : (b : Bool) (p q : Place) → OfSegments p → OfSegments q → OfSegments (cond b p q)
pick true p q a b = a
pick false p q a b = b

taken : (n : ℕ) (place : Place) → OfSegments place → OfSegments (take n place)
taken zero place a = tt
taken (suc n) [] a = tt
taken (suc n) (s ∷ place) a = (a.0, taken n place a.1)

led : (scope : Place) (path : Path) → OfSegments scope → OfSegments path.segs → OfSegments (place_of scope path)
led scope path a b =
    each_append IsSegment (cond path.root [] (up path.ups scope)) path.segs (pick path.root [] (up path.ups scope) tt (taken (length scope - path.ups) scope a)) b

found_led : (known : List Place) (scope segs other : Place) (n : ℕ) → OfSegments scope → OfSegments segs → OfSegments other → OfSegments (found known scope segs other n)
unfolding found
found_led known scope segs other zero a b c = pick (is_known known segs) segs other b c
found_led known scope segs other (suc n) a b c =
    let here = take (suc n) scope ++ segs in
    pick (is_known known here) here (found known scope segs other n) (each_append IsSegment (take (suc n) scope) segs (taken (suc n) scope a) b)
    (found_led known scope segs other n a b c)

opened_led : (known : List Place) (scope : Place) (path : Path) → OfSegments scope → OfSegments path.segs → OfSegments (opened known scope path)
opened_led known scope path a b =
    let there = led scope path a b in
    pick (is_single path) (found known scope path.segs (place_of scope path) (length scope)) (place_of scope path)
    (found_led known scope path.segs (place_of scope path) (length scope) a b there) there

-- # What blocks place

-- a device or a processor is placed at segments
abbrev IsPlaced : Place → Thing → Type 0
IsPlaced place (data_object d) = Unit {0}
IsPlaced place device = OfSegments place
IsPlaced place processor = OfSegments place
IsPlaced place method = Unit {0}
IsPlaced place (alias_of name) = Unit {0}

abbrev IsPlacedGift : Place → Option Sized → Type 0
IsPlacedGift place None = Unit {0}
IsPlacedGift place (Some x) = IsPlaced place x.object

abbrev IsPlacedStep : Step → Type 0
IsPlacedStep s = IsPlacedGift s.place s.given

abbrev ArePlaced : List Step → Type 0
ArePlaced = AllByRecursion IsPlacedStep

-- what is done inside one level more
abbrev Inside : Width → ℕ → Type 0
Inside width depth = (terms : List Term) → AreWritable depth terms → (scope : Place) → OfSegments scope → (before : List Step) → ArePlaced (steps_in width terms scope before)

method_placed : (width : Width) (scope : Place) (path : Option Path) → ArePlaced (method_steps width scope path)
method_placed width scope None = tt
method_placed width scope (Some path) = (tt, tt)

unread_placed : (width : Width) (scope : Place) (is_method is_never_run : Bool) (opcode : ℕ) (path : Option Path)
    → ArePlaced (cond is_method (method_steps width scope path) (cond is_never_run [] (passes scope opcode ∷ [])))
unread_placed width scope true never opcode path = method_placed width scope path
unread_placed width scope false true opcode path = tt
unread_placed width scope false false opcode path = (tt, tt)

layer_placed : (width : Width) (depth : ℕ) (t : Term) (l : Term-F Term) → out-Term t ≡ l → IsWritableLayer (AreWritable depth) l → Inside width depth
    → (scope : Place) → OfSegments scope → (before : List Step) → ArePlaced (steps_of width t scope before)
layer_placed width depth t (layer.Name path value) is w inside scope a before = rw (steps-layer width t (layer.Name path value) is) (tt, tt)
layer_placed width depth t (layer.Scope path inner) is w inside scope a before =
    rw (steps-layer width t (layer.Scope path inner) is) (tt, inside inner w.1 _ (opened_led (touched before) scope path a w.0.segments) _)
layer_placed width depth t (layer.Device path inner) is w inside scope a before =
    rw (steps-layer width t (layer.Device path inner) is) (led scope path a w.0.segments, inside inner w.2 _ (led scope path a w.0.segments) _)
layer_placed width depth t (layer.Processor path id block len inner) is w inside scope a before =
    rw (steps-layer width t (layer.Processor path id block len inner) is) (led scope path a w.0.segments, inside inner w.3 _ (led scope path a w.0.segments) _)
layer_placed width depth t (layer.Unread opcode body) is w inside scope a before =
    rw (steps-layer width t (layer.Unread opcode body) is) (unread_placed width scope (opcode == METHOD_OP) (never_runs opcode body) opcode (named_by body))
layer_placed width depth t (layer.Alias source alias) is w inside scope a before = rw (steps-layer width t (layer.Alias source alias) is) (tt, tt)
layer_placed width depth t (layer.External path kind args) is w inside scope a before = rw (steps-layer width t (layer.External path kind args) is) tt
layer_placed width depth t (layer.Mutex path flags) is w inside scope a before = rw (steps-layer width t (layer.Mutex path flags) is) tt
layer_placed width depth t (layer.Event path) is w inside scope a before = rw (steps-layer width t (layer.Event path) is) tt
layer_placed width depth t (layer.Region path space offset len) is w inside scope a before = rw (steps-layer width t (layer.Region path space offset len) is) tt

terms_placed : (width : Width) (depth : ℕ) (terms : List Term) → AllByRecursion (IsWritableTerm depth) terms → Inside width depth
    → (scope : Place) → OfSegments scope → (before : List Step) → ArePlaced (steps_in width terms scope before)
terms_placed width depth [] w inside scope a before = tt
terms_placed width depth (t ∷ ts) w inside scope a before =
    each_append IsPlacedStep (steps_of width t scope before) _ (layer_placed width depth t (out-Term t) refl w.0 inside scope a before)
    (terms_placed width depth ts w.1 inside scope a (before ++ steps_of width t scope before))

inside_placed : (width : Width) (depth : ℕ) → Inside width depth
unfolding AreWritable
inside_placed width zero terms w scope a before = absurd w
inside_placed width (suc depth) terms w scope a before = terms_placed width depth terms w (inside_placed width depth) scope a before

blocks_placed : (blocks bs : List Block) (before : List Step) → All IsWritableBlock bs → ArePlaced (in_order (map (block_turn blocks) bs) [] before)
blocks_placed blocks [] before w = tt
blocks_placed blocks (b ∷ bs) before w =
    let first = terms_placed (width_among blocks b) _ b.terms (All-head IsWritableBlock b bs w).terms (inside_placed (width_among blocks b) _) [] tt before in
    each_append IsPlacedStep (block_turn blocks b [] before) _ first (blocks_placed blocks bs (before ++ block_turn blocks b [] before) (All-tail IsWritableBlock b bs w))

abbrev IsPlacedEntry : Entry → Type 0
IsPlacedEntry e = IsPlaced e.path e.object

one_placed : (place : Place) (o : Option Sized) (over : Option ℕ) (ss : List Step) → IsPlacedGift place o → AllByRecursion IsPlacedEntry (entries_of ss)
    → AllByRecursion IsPlacedEntry (entries_of (record { place = place; given = o; passed = over } ∷ ss))
one_placed place None over ss placed rest = rest
one_placed place (Some x) over ss placed rest = (placed, rest)

entries_placed : (steps : List Step) → ArePlaced steps → AllByRecursion IsPlacedEntry (entries_of steps)
entries_placed [] all = tt
entries_placed (s ∷ ss) all = one_placed s.place s.given s.passed ss all.0 (entries_placed ss all.1)

entry_placed : (es : List Entry) → AllByRecursion IsPlacedEntry es → (k : ℕ) → IsPlacedEntry (entry_in es k)
unfolding no_entry
entry_placed [] all k = tt
entry_placed (e ∷ es) all zero = all.0
entry_placed (e ∷ es) all (suc k) = entry_placed es all.1 k

-- # Processors

thing_placed : (place : Place) (t : Thing) (b : Bool) → (is_declared t || (is_device t && b)) ≡ true → IsPlaced place t → OfSegments place
thing_placed place (data_object d) b e placed = absurd (cc)
thing_placed place device b e placed = placed
thing_placed place processor b e placed = placed
thing_placed place method b e placed = absurd (cc)
thing_placed place (alias_of name) b e placed = absurd (cc)

cpu_placed : (es : List Entry) → AllByRecursion IsPlacedEntry es → (k : ℕ) → is_processor es k ≡ true → OfSegments (path_in es k)
cpu_placed es all k e = thing_placed (path_in es k) (entry_in es k).object (has_id es processor_id k) e (entry_placed es all k)

-- what is made has a property, behind any remarks
abbrev Makes : {A : Type 0} → (A → Type 0) → Made A → Type 0
Makes T (built x remarks) = T x

after_all : {A B : Type 0} (T : B → Type 0) (r : Made A) (f : A → Build B) → ((x : A) (mid : Remarks) → Makes T (f x mid)) → Makes T (after r f)
after_all T (built x mid) f next = next x mid

after_first : {A B : Type 0} (S : A → Type 0) (T : B → Type 0) (r : Made A) (f : A → Build B) → Makes S r → ((x : A) (mid : Remarks) → S x → Makes T (f x mid))
    → Makes T (after r f)
after_first S T (built x mid) f first next = next x mid first

each_made : {A : Type 0} (f : ℕ → Build A) (test : ℕ → Bool) (T : A → Type 0) → ((k : ℕ) → test k ≡ true → (old : Remarks) → Makes T (f k old))
    → (ks : List ℕ) (old : Remarks) → Makes (AllByRecursion T) (each f (filter test ks) old)
each_made {A} f test T h [] old = tt
each_made {A} f test T h (k ∷ ks) old = by (test k) refl (each_made f test T h ks)
  where
    by : (b : Bool) → test k ≡ b → ((before : Remarks) → Makes (AllByRecursion T) (each f (filter test ks) before))
        → Makes (AllByRecursion T) (each f (cond b (k ∷ filter test ks) (filter test ks)) old)
    by false is later = later old
    by true is later = after_first T (AllByRecursion T) (f k old) (λ y. each f (filter test ks) >>= λ ys. done (y ∷ ys)) (h k is old)
        (λ y mid first. after_first (AllByRecursion T) (AllByRecursion T) (each f (filter test ks) mid) (λ ys. done (y ∷ ys)) (later mid) (λ ys last rest. (first, rest)))

-- how a processor's parts are made, once some of them are
abbrev with_cpc : List Entry → ℕ → IdleTable × List CDependency → Option Scale → Option Scale → Option Cpc → Build CpuParts
with_cpc es k idle perf throttle cpc = done (record {
  path = record { segs = path_in es k };
  parent = parent_of es k;
  idle = idle.0;
  csd = idle.1;
  perf = perf;
  throttle = throttle;
  cpc = cpc;
})

abbrev with_throttle : List Entry → ℕ → IdleTable × List CDependency → Option Scale → Option Scale → Build CpuParts
with_throttle es k idle perf throttle = cpc_at es k >>= with_cpc es k idle perf throttle

abbrev with_perf : List Entry → ℕ → IdleTable × List CDependency → Option Scale → Build CpuParts
with_perf es k idle perf = throttle_of es k >>= with_throttle es k idle perf

abbrev with_idle : List Entry → ℕ → IdleTable × List CDependency → Build CpuParts
with_idle es k idle = perf_of es k >>= with_perf es k idle

cpu_made : (es : List Entry) (k : ℕ) (old : Remarks) → Makes (λ (c : CpuParts). c.path.segs ≡ path_in es k) (cpu_parts es k old)
unfolding cpu_parts
cpu_made es k old =
    let T : CpuParts → Type 0 = λ c. c.path.segs ≡ path_in es k in
    after_all T (idle_of es k old) (with_idle es k) (λ idle a.
    after_all T (perf_of es k a) (with_perf es k idle) (λ perf b.
    after_all T (throttle_of es k b) (with_throttle es k idle perf) (λ throttle c.
    after_all T (cpc_at es k c) (with_cpc es k idle perf throttle) (λ cpc d. refl))))

of_segments : (es : List Entry) (k : ℕ) (r : Made CpuParts) → OfSegments (path_in es k) → Makes (λ (c : CpuParts). c.path.segs ≡ path_in es k) r → Makes IsOfSegments r
of_segments es k (built c remarks) segments path = subst (AllByRecursion IsSegment) (sym path) segments

cpus_made : (es : List Entry) → AllByRecursion IsPlacedEntry es → (old : Remarks) → Makes (AllByRecursion IsOfSegments) (each (cpu_parts es) (processors_of es) old)
unfolding processors_of
cpus_made es all old =
    each_made (cpu_parts es) (is_processor es) IsOfSegments (λ k is before. of_segments es k (cpu_parts es k before) (cpu_placed es all k is) (cpu_made es k before)) (numbers_of es) old

parts_made : (es : List Entry) → AllByRecursion IsPlacedEntry es → (old : Remarks) → Makes (λ (p : Parts). AllByRecursion IsOfSegments p.cpus) (parts_of es old)
unfolding parts_of
parts_made es all old =
    let T : Parts → Type 0 = λ p. AllByRecursion IsOfSegments p.cpus in
    after_all T (each (container_parts es) (containers_of es) old)
    (λ containers. each (cpu_parts es) (processors_of es) >>= λ cpus. done (record { containers = containers; cpus = cpus })) (λ containers mid.
    after_first (AllByRecursion IsOfSegments) T (each (cpu_parts es) (processors_of es) mid) (λ cpus. done (record { containers = containers; cpus = cpus })) (cpus_made es all mid)
    (λ cpus last segments. segments))

same_made : {a b : Parts × List Note} → within None a ≡ Ok b → a ≡ b
same_made e = cc

judged_made : (r : Made Parts) (made : Parts × List Note) → Makes (λ (p : Parts). AllByRecursion IsOfSegments p.cpus) r → judged r ≡ Ok made → AllByRecursion IsOfSegments made.0.cpus
judged_made (built parts remarks) made segments e = by remarks.faults (limit_passed parts.containers parts.cpus) e
  where
    by : (fs : List ObjectFault) (o : Option PlanFault) → unless (first_fault fs) (within o (parts, remarks.notes)) ≡ Ok made → AllByRecursion IsOfSegments made.0.cpus
    by [] None is = subst (λ (m : Parts × List Note). AllByRecursion IsOfSegments m.0.cpus) (same_made is) segments
    by [] (Some (limits.Limit which number)) is = absurd (cc)
    by [] (Some limits.Memory) is = subst (λ (m : Parts × List Note). AllByRecursion IsOfSegments m.0.cpus) (same_made is) segments
    by (f ∷ fs) o is = absurd (cc)

within_made : (es : List Entry) → AllByRecursion IsPlacedEntry es → (made : Parts × List Note) → parts_within es [] ≡ Ok made → AllByRecursion IsOfSegments made.0.cpus
unfolding parts_within
within_made es all made e = judged_made (parts_of es (noting [])) made (parts_made es all (noting [])) e

-- # Files

blocks_writable : (holds : List ℕ → Option (List ℕ)) (before : ℕ) (names : List (List ℕ)) (blocks : List Block) → AreBlocks holds before names blocks
    → All IsWritableBlock blocks
blocks_writable holds before _ _ no_block = All-nil IsWritableBlock
blocks_writable holds before (name ∷ names) (b ∷ bs) (one_block {size = size} p few rest) =
    All-cons IsWritableBlock b bs (block_writable b p.bytes p.spelled) (blocks_writable holds (before + size) names bs rest)

pub planned_segments : (files : FilesSeen) (names : List (List ℕ)) (P : Plan) → files.told ≡ true → ArePlanned files names P → HasSegments P
planned_segments files names P tells planned =
    let writable = blocks_writable files.holds 0 names planned.blocks (planned.held tells) in
    let placed = entries_placed _ (blocks_placed planned.blocks planned.blocks [] writable) in
    record { cpus = within_made (entries_in planned.blocks) placed _ planned.made.parts }
