-- The width of the integers that blocks place.
use Rattle.std.proofs.Common.{◌≡◌, ◌≢◌, ℕ, Bool, true, false, List, [], ◌∷◌, ◌++◌, map, Option, Some, None, refl, sym, ap, subst, arith}
use Rattle.std.specs.Prelude.{All, IfSome, ◌==◌, cond, nat_le}
use Rattle.std.proofs.lemmas.Bool.Decides.{nat_tests}
use Rattle.std.proofs.lemmas.List.Elements.{All-append, All-cons, All-head, All-nil, All-tail}
use Rattle.aml_data.specs.declared.data.Width.{Width}
use Rattle.aml_data.specs.declared.data.Width.TheVariants.{W32, W64}
use Rattle.aml_data.specs.declared.path.Path.{Path}
use Rattle.aml_block.specs.declared.block.Block.{Block}
use Rattle.aml_block.specs.declared.block.Header.{Header}
use Rattle.aml_block.specs.declared.block.Signature.{Signature}
use Rattle.aml_block.specs.declared.block.Signature.TheVariants.{Dsdt, Ssdt}
use Rattle.aml_block.specs.declared.opcode.TheConstants.{METHOD_OP}
use Rattle.aml_block.specs.declared.term.Term.{Term, Term-F, map-Term}
use Rattle.aml_block.specs.declared.term.Term.TheOpen as layer
use Rattle.aml_block.specs.declared.term.Term.TheFolds.{fold-roll-Term, ind-Term}
use Rattle.aml_block.specs.Header.{own_width}
use Rattle.acpi_space.specs.Namespace.{Entry, block_turn, dsdt_width, entries_in, entries_of, width_among}
use Rattle.acpi_space.specs.Places.{Place}
use Rattle.acpi_space.specs.Steps.{Sized, Step, Turn, in_order, method_steps, never_runs, passes, steps_in, steps_layer, steps_of}
use Rattle.acpi_space.specs.Widths.{AreOfWidthBy, HaveNoDsdt, IsWidthBy}
use Rattle.acpi_space.specs.inner.Naming.{named_by}

-- # Terms

-- a step places nothing, or an object of such a width
abbrev Gives : (Width → Type 0) → Step → Type 0
Gives P s = IfSome s.given (λ (x : Sized). P x.width)

abbrev AllGive : (Width → Type 0) → List Step → Type 0
AllGive P = All (Gives P)

abbrev TermGives : (Width → Type 0) → Width → Term → Type 0
TermGives P width t = (scope : Place) (before : List Step) → AllGive P (steps_of width t scope before)

none_given : (P : Width → Type 0) → AllGive P []
none_given P = All-nil (Gives P)

turns_give : (P : Width → Type 0) (width : Width) (es : List ((t : Term) × TermGives P width t)) (scope : Place) (before : List Step)
    → AllGive P (in_order (map (steps_of width) (map (λ e. e.0) es)) scope before)
turns_give P width [] scope before = none_given P
turns_give P width (e ∷ es) scope before =
    All-append (Gives P) (steps_of width e.0 scope before) _ (e.1 scope before) (turns_give P width es scope (before ++ steps_of width e.0 scope before))

method_gives : (P : Width → Type 0) (width : Width) (scope : Place) (path : Option Path) → P width → AllGive P (method_steps width scope path)
method_gives P width scope None p = none_given P
method_gives P width scope (Some path) p = All-cons (Gives P) _ [] p (none_given P)

unread_gives : (P : Width → Type 0) (width : Width) (scope : Place) (is_method is_never_run : Bool) (opcode : ℕ) (path : Option Path) → P width
    → AllGive P (cond is_method (method_steps width scope path) (cond is_never_run [] (passes scope opcode ∷ [])))
unread_gives P width scope true never opcode path p = method_gives P width scope path p
unread_gives P width scope false true opcode path p = none_given P
unread_gives P width scope false false opcode path p = All-cons (Gives P) _ [] tt (none_given P)

layer_gives : (P : Width → Type 0) (width : Width) → P width → (y : Term-F ((t : Term) × TermGives P width t)) (scope : Place) (before : List Step)
    → AllGive P (steps_layer width (map-Term Term Turn (steps_of width) (map-Term ((t : Term) × TermGives P width t) Term (λ e. e.0) y)) scope before)
layer_gives P width p (layer.Name path value) scope before = All-cons (Gives P) _ [] p (none_given P)
layer_gives P width p (layer.Scope path inner) scope before = All-cons (Gives P) _ _ tt (turns_give P width inner _ _)
layer_gives P width p (layer.Device path inner) scope before = All-cons (Gives P) _ _ p (turns_give P width inner _ _)
layer_gives P width p (layer.Processor path id block len inner) scope before = All-cons (Gives P) _ _ p (turns_give P width inner _ _)
layer_gives P width p (layer.Unread opcode body) scope before =
    unread_gives P width scope (opcode == METHOD_OP) (never_runs opcode body) opcode (named_by body) p
layer_gives P width p (layer.Alias source alias) scope before = All-cons (Gives P) _ [] p (none_given P)
layer_gives P width p (layer.External path kind args) scope before = none_given P
layer_gives P width p (layer.Mutex path flags) scope before = none_given P
layer_gives P width p (layer.Event path) scope before = none_given P
layer_gives P width p (layer.Region path space offset len) scope before = none_given P

term_gives : (P : Width → Type 0) (width : Width) → P width → (t : Term) → TermGives P width t
unfolding steps_of
term_gives P width p = ind-Term (TermGives P width) (λ x y is scope before.
    subst (AllGive P) (sym (ap (λ (t : Turn). t scope before) (fold-roll-Term Turn (steps_layer width) x)))
    (subst (λ (z : Term-F Term). AllGive P (steps_layer width (map-Term Term Turn (steps_of width) z) scope before)) is (layer_gives P width p y scope before)))

terms_give : (P : Width → Type 0) (width : Width) → P width → (terms : List Term) (scope : Place) (before : List Step) → AllGive P (steps_in width terms scope before)
terms_give P width p [] scope before = none_given P
terms_give P width p (t ∷ ts) scope before =
    All-append (Gives P) (steps_of width t scope before) _ (term_gives P width p t scope before) (terms_give P width p ts scope (before ++ steps_of width t scope before))

-- # Blocks

block_gives : (P : Width → Type 0) (blocks : List Block) (b : Block) → P (width_among blocks b) → (scope : Place) (before : List Step) → AllGive P (block_turn blocks b scope before)
block_gives P blocks b p scope before = terms_give P (width_among blocks b) p b.terms [] before

blocks_give : (P : Width → Type 0) (blocks bs : List Block) → ((b : Block) → P (width_among blocks b)) → (scope : Place) (before : List Step)
    → AllGive P (in_order (map (block_turn blocks) bs) scope before)
blocks_give P blocks [] p scope before = none_given P
blocks_give P blocks (b ∷ bs) p scope before =
    All-append (Gives P) (block_turn blocks b scope before) _ (block_gives P blocks b (p b) scope before) (blocks_give P blocks bs p scope (before ++ block_turn blocks b scope before))

one_entry : (P : Width → Type 0) (place : Place) (o : Option Sized) (over : Option ℕ) (ss : List Step) → IfSome o (λ (x : Sized). P x.width) → All (λ (e : Entry). P e.width) (entries_of ss)
    → All (λ (e : Entry). P e.width) (entries_of (record { place = place; given = o; passed = over } ∷ ss))
one_entry P place None over ss p rest = rest
one_entry P place (Some x) over ss p rest = All-cons (λ (e : Entry). P e.width) _ (entries_of ss) p rest

entries_give : (P : Width → Type 0) (steps : List Step) → AllGive P steps → All (λ (e : Entry). P e.width) (entries_of steps)
entries_give P [] all = All-nil (λ (e : Entry). P e.width)
entries_give P (s ∷ ss) all = one_entry P s.place s.given s.passed ss (All-head (Gives P) s ss all) (entries_give P ss (All-tail (Gives P) s ss all))

-- # Widths

width_by : (revision : ℕ) (b : Bool) → nat_le 2 revision ≡ b → IsWidthBy revision (cond b W64 W32)
width_by revision true e = grind (arith, nat_tests)
width_by revision false e = grind (arith, nat_tests)

own_is : (header : Header) → IsWidthBy header.revision (own_width header)
own_is header = width_by header.revision (nat_le 2 header.revision) refl

other : (s : Signature) → s ≢ Dsdt → s ≡ Ssdt
other Dsdt apart = absurd (apart refl)
other Ssdt apart = refl

first_width : (front back : List Block) (dsdt : Block) → HaveNoDsdt front → dsdt.header.signature ≡ Dsdt → dsdt_width (front ++ dsdt ∷ back) ≡ Some (own_width dsdt.header)
first_width [] back dsdt none is = rw is refl
first_width (b ∷ bs) back dsdt none is =
    let ssdt : b.header.signature ≡ Ssdt = other b.header.signature (All-head (λ (x : Block). x.header.signature ≢ Dsdt) b bs none) in
    rw ssdt (first_width bs back dsdt (All-tail (λ (x : Block). x.header.signature ≢ Dsdt) b bs none) is)

no_width : (blocks : List Block) → HaveNoDsdt blocks → dsdt_width blocks ≡ None
no_width [] none = refl
no_width (b ∷ bs) none =
    let ssdt : b.header.signature ≡ Ssdt = other b.header.signature (All-head (λ (x : Block). x.header.signature ≢ Dsdt) b bs none) in
    rw ssdt (no_width bs (All-tail (λ (x : Block). x.header.signature ≢ Dsdt) b bs none))

pub of_first : (front back : List Block) (dsdt : Block) → HaveNoDsdt front → dsdt.header.signature ≡ Dsdt → AreOfWidthBy dsdt.header.revision (entries_in (front ++ dsdt ∷ back))
of_first front back dsdt none is =
    let blocks : List Block = front ++ dsdt ∷ back in
    let P : Width → Type 0 = IsWidthBy dsdt.header.revision in
    let first = first_width front back dsdt none is in
    entries_give P _ (blocks_give P blocks blocks (λ b. rw first (own_is dsdt.header)) [] [])

pub of_none : (blocks : List Block) (block : Block) (known : List Step) → HaveNoDsdt blocks → AreOfWidthBy block.header.revision (entries_of (block_turn blocks block [] known))
of_none blocks block known none =
    let P : Width → Type 0 = IsWidthBy block.header.revision in
    let own = no_width blocks none in
    entries_give P _ (block_gives P blocks block (rw own (own_is block.header)) [] known)
