-- The rows of modes, appended one after another.
use Rattle.std.proofs.Common.{◌≡◌, ℕ, List, ◌++◌, ap, ◌∙◌, codes}
use Rattle.dp_slave.specs.declared.description.SlaveSpec.{SlaveSpec}
use Rattle.gsd_files.specs.GsdText.{number_line, flag, is_modular, modes_text}
use Rattle.gsd_files.proofs.Joins.{join_5}

pub modes_joined : (slave : SlaveSpec) (f s z u m : ℕ) (o o1 o2 o3 o4 o5 : List ℕ)
    → f ≡ flag slave.freeze → s ≡ flag slave.sync → z ≡ flag slave.failsafe → u ≡ slave.user_max → m ≡ flag (is_modular slave.cfgs.items)
    → o1 ≡ o ++ number_line (codes "Freeze_Mode_supp") f
    → o2 ≡ o1 ++ number_line (codes "Sync_Mode_supp") s
    → o3 ≡ o2 ++ number_line (codes "Fail_Safe") z
    → o4 ≡ o3 ++ number_line (codes "Max_User_Prm_Data_Len") u
    → o5 ≡ o4 ++ number_line (codes "Modular_Station") m
    → o5 ≡ o ++ modes_text slave
unfolding modes_text
modes_joined slave f s z u m o o1 o2 o3 o4 o5 ef es ez eu em p1 p2 p3 p4 p5 =
    join_5 o o1 o2 o3 o4 o5 _ _ _ _ _
    (p1 ∙ ap (λ (x : ℕ). o ++ number_line (codes "Freeze_Mode_supp") x) ef)
    (p2 ∙ ap (λ (x : ℕ). o1 ++ number_line (codes "Sync_Mode_supp") x) es)
    (p3 ∙ ap (λ (x : ℕ). o2 ++ number_line (codes "Fail_Safe") x) ez)
    (p4 ∙ ap (λ (x : ℕ). o3 ++ number_line (codes "Max_User_Prm_Data_Len") x) eu)
    (p5 ∙ ap (λ (x : ℕ). o4 ++ number_line (codes "Modular_Station") x) em)
