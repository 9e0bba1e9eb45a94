-- `spelled_by` meets its contract: each arm knows a mark's word, and the last ones that it is none of them.
use mathlib.Core.Path.{refl}
use borrow.Author.Rules.{rules}
use Rattle.cells.specs.declared.Mode.TheVariants.{Fm, Mfm}
use Rattle.search.specs.Aids.{word_at, spelled_by}
use Rattle.search.proofs.Telling.{spelled_one, spelled_none}
use Rattle.search.proofs.places.spelled_by.Goals as goal

pub returns-in-62846 : goal.returns-in-62846
unfolding spelled_by word_at
returns-in-62846 c = spelled_one Fm _ c.in-Fm.is c.in-62846.is refl

pub returns-in-62831 : goal.returns-in-62831
unfolding spelled_by word_at
returns-in-62831 c = spelled_one Fm _ c.in-Fm.is c.in-62831.is refl

pub returns-in-62826 : goal.returns-in-62826
unfolding spelled_by word_at
returns-in-62826 c = spelled_one Fm _ c.in-Fm.is c.in-62826.is refl

pub returns-in-62827 : goal.returns-in-62827
unfolding spelled_by word_at
returns-in-62827 c = spelled_one Fm _ c.in-Fm.is c.in-62827.is refl

pub returns-in_default : goal.returns-in_default
unfolding word_at
returns-in_default c = spelled_none Fm c.in-Fm.is (search rules) (search rules) (search rules) (search rules)

pub returns-in-4938553822739518804 : goal.returns-in-4938553822739518804
unfolding spelled_by word_at
returns-in-4938553822739518804 c = spelled_one Mfm _ c.in-Mfm.is c.in-4938553822739518804.is refl

pub returns-in-4938553822739518789 : goal.returns-in-4938553822739518789
unfolding spelled_by word_at
returns-in-4938553822739518789 c = spelled_one Mfm _ c.in-Mfm.is c.in-4938553822739518789.is refl

pub returns-in-4938553822739518794 : goal.returns-in-4938553822739518794
unfolding spelled_by word_at
returns-in-4938553822739518794 c = spelled_one Mfm _ c.in-Mfm.is c.in-4938553822739518794.is refl

pub returns-in-4938553822739518793 : goal.returns-in-4938553822739518793
unfolding spelled_by word_at
returns-in-4938553822739518793 c = spelled_one Mfm _ c.in-Mfm.is c.in-4938553822739518793.is refl

pub returns-in_default-word : goal.returns-in_default-word
unfolding word_at
returns-in_default-word c = spelled_none Mfm c.in-Mfm.is (search rules) (search rules) (search rules) (search rules)
