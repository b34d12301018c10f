-- No first fault of a part or of an object is want of memory.
use Rattle.std.proofs.Common.{ℕ, Bool, List}
use Rattle.aml_data.specs.declared.fault.DataFault.{DataFault}
use Rattle.aml_data.specs.declared.fault.DataFault.TheVariants.{Memory as no_memory}
use Rattle.aml_data.specs.Lengths.{LenFails, fails_no_length, fails_reserved_bit, fails_few_following, fails_wrong_length}
use Rattle.aml_data.specs.Layouts.{FewerThan, fails_few, BothFail, fails_in_one, fails_in_other, SizedFails, fails_in_length, fails_inside}
use Rattle.aml_data.specs.Faults.{LetterFails, fails_no_letter, fails_wrong_letter, SegmentFails, fails_at_first, fails_at_second, fails_at_third, fails_at_fourth}
use Rattle.aml_data.specs.Faults.{SeveralFail, fails_this_segment, fails_later_segment, SegmentsFail, fails_no_segments, fails_in_two, fails_no_count, fails_count_zero}
use Rattle.aml_data.specs.Faults.{fails_in_many, fails_in_one as fails_in_one_segment, NameFails, fails_in_segments, ConstFails, fails_no_constant, fails_few_bytes, fails_other_byte}
use Rattle.aml_data.specs.Faults.{TextFails, fails_no_end, fails_high_byte, Fails, FailsWithin, fails_no_object, fails_other_lead, fails_in_constant, fails_no_second, fails_other_second}
use Rattle.aml_data.specs.Faults.{fails_in_text, fails_in_path, fails_in_buffer, fails_too_deep, fails_in_count, fails_in_elements, fails_var_too_deep, fails_in_var_count, fails_in_var_elements}
use Rattle.aml_data.specs.Faults.{ElementsFail, fails_too_many, fails_this_element, fails_later_element}

abbrev pub IsCause : DataFault → Type 0
IsCause no_memory = ⊥
IsCause other = Unit {0}

letter_cause : (test : ℕ → Bool) (end : ℕ) (bytes : List ℕ) (f : DataFault) → LetterFails test end bytes f → IsCause f
letter_cause test end _ _ fails_no_letter = tt
letter_cause test end _ _ (fails_wrong_letter e) = tt

segment_cause : (end : ℕ) (bytes : List ℕ) (f : DataFault) → SegmentFails end bytes f → IsCause f
segment_cause end _ f (fails_at_first h) = letter_cause _ _ _ _ h
segment_cause end _ f (fails_at_second a h) = letter_cause _ _ _ _ h
segment_cause end _ f (fails_at_third a b h) = letter_cause _ _ _ _ h
segment_cause end _ f (fails_at_fourth a b c h) = letter_cause _ _ _ _ h

several_cause : (n end : ℕ) (bytes : List ℕ) (f : DataFault) → SeveralFail n end bytes f → IsCause f
several_cause _ end _ f (fails_this_segment h) = segment_cause _ _ _ h
several_cause _ end _ f (fails_later_segment s rest i h) = several_cause _ _ _ _ h

segments_cause : (end : ℕ) (bytes : List ℕ) (f : DataFault) → SegmentsFail end bytes f → IsCause f
segments_cause end _ _ fails_no_segments = tt
segments_cause end _ f (fails_in_two h) = several_cause _ _ _ _ h
segments_cause end _ _ fails_no_count = tt
segments_cause end _ _ fails_count_zero = tt
segments_cause end _ f (fails_in_many some h) = several_cause _ _ _ _ h
segments_cause end _ f (fails_in_one_segment a b c h) = several_cause _ _ _ _ h

pub name_cause : (end : ℕ) (bytes : List ℕ) (f : DataFault) → NameFails end bytes f → IsCause f
name_cause end _ f (fails_in_segments p rest prefixed ends h) = segments_cause _ _ _ h

pub constant_cause : (end : ℕ) (bytes : List ℕ) (f : DataFault) → ConstFails end bytes f → IsCause f
constant_cause end _ _ fails_no_constant = tt
constant_cause end _ _ (fails_few_bytes follows few) = tt
constant_cause end _ _ (fails_other_byte none) = tt

pub length_cause : (end : ℕ) (bytes : List ℕ) (f : DataFault) → LenFails end bytes f → IsCause f
length_cause end _ _ fails_no_length = tt
length_cause end _ _ (fails_reserved_bit le set) = tt
length_cause end _ _ (fails_few_following none few) = tt
length_cause end _ _ (fails_wrong_length p rest h wrong) = tt

text_cause : (end : ℕ) (bytes : List ℕ) (f : DataFault) → TextFails end bytes f → IsCause f
text_cause end _ _ (fails_no_end t all) = tt
text_cause end _ _ (fails_high_byte t rest all high) = tt

-- ---- parts of a layout

-- no first fault of this part is want of memory
abbrev pub HasCauses : (ℕ → List ℕ → DataFault → Type 0) → Type 0
HasCauses F = (end : ℕ) (bytes : List ℕ) (f : DataFault) → F end bytes f → IsCause f

pub few_cause : (n : ℕ) → HasCauses (FewerThan n)
few_cause n end bytes _ (fails_few few) = tt

pub both_cause : {A : Type 0} (F : ℕ → List ℕ → DataFault → Type 0) (S : A → List ℕ → Type 0) (G : ℕ → List ℕ → DataFault → Type 0) → HasCauses F → HasCauses G → HasCauses (BothFail F S G)
both_cause F S G one other end _ f (fails_in_one h) = one _ _ _ h
both_cause F S G one other end _ f (fails_in_other front rest s h) = other _ _ _ h

pub sized_cause : (F : ℕ → List ℕ → DataFault → Type 0) → HasCauses F → HasCauses (SizedFails F)
sized_cause F inside end _ f (fails_in_length h) = length_cause _ _ _ h
sized_cause F inside end _ f (fails_inside front rest held h) = inside _ _ _ h

-- ---- objects

mutual
  within_cause : (depth end : ℕ) (bytes : List ℕ) (f : DataFault) → FailsWithin depth end bytes f → IsCause f
  within_cause _ end _ _ fails_no_object = tt
  within_cause _ end _ _ (fails_other_lead b) = tt
  within_cause _ end _ _ (fails_in_constant follows few) = tt
  within_cause _ end _ _ fails_no_second = tt
  within_cause _ end _ _ (fails_other_second other) = tt
  within_cause _ end _ f (fails_in_text h) = text_cause _ _ _ h
  within_cause _ end _ f (fails_in_path begins h) = name_cause _ _ _ h
  within_cause _ end _ f (fails_in_buffer h) = sized_cause ConstFails constant_cause _ _ _ h
  within_cause _ end _ _ fails_too_deep = tt
  within_cause _ end _ f (fails_in_count h) = sized_cause (FewerThan 1) (few_cause 1) _ _ _ h
  within_cause _ end _ f (fails_in_elements b rest held octet h) = elements_cause _ _ _ _ _ h
  within_cause _ end _ _ fails_var_too_deep = tt
  within_cause _ end _ f (fails_in_var_count h) = sized_cause ConstFails constant_cause _ _ _ h
  within_cause _ end _ f (fails_in_var_elements b rest held const h) = elements_cause _ _ _ _ _ h

  elements_cause : (depth count end : ℕ) (bytes : List ℕ) (f : DataFault) → ElementsFail depth count end bytes f → IsCause f
  elements_cause _ _ end _ _ fails_too_many = tt
  elements_cause _ _ end _ f (fails_this_element h) = within_cause _ _ _ _ h
  elements_cause _ _ end _ f (fails_later_element v c rest spelled h) = elements_cause _ _ _ _ _ h

pub object_cause : HasCauses Fails
object_cause end bytes f h = within_cause 32 end bytes f h
