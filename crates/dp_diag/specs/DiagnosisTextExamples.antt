-- helper
-- Diagnoses of a slave with ident number 80A1.
use Rattle.std.specs.Prelude.{◌≡◌, [], ◌∷◌, true, false, Some, None, refl}
use Rattle.dp_sap.specs.declared.state.State.TheVariants.{WaitPrm, WaitCfg, DataExch}
use Rattle.dp_diag.specs.declared.facts.DiagFacts.{DiagFacts}
use Rattle.dp_diag.specs.Diagnosis.{no_diagnosis}
use Rattle.dp_diag.specs.DiagnosisText.{diagnosis_text}

-- nobody holds the slave, and nothing has happened
abbrev pub fresh : DiagFacts
fresh = record {
  state = WaitPrm;
  holder = None;
  ident = 0x80A1;
  wd_on = false;
  freeze_mode = false;
  sync_mode = false;
  diag = no_diagnosis;
}

-- master 1 exchanges data with it, and its watchdog runs
abbrev pub exchanging : DiagFacts
exchanging = record fresh { state = DataExch; holder = Some 1; wd_on = true }

pub fresh_text : diagnosis_text fresh ≡ 0x02 ∷ 0x05 ∷ 0x00 ∷ 0xFF ∷ 0x80 ∷ 0xA1 ∷ []
fresh_text = refl

pub exchanging_text : diagnosis_text exchanging ≡ 0x00 ∷ 0x0C ∷ 0x00 ∷ 0x01 ∷ 0x80 ∷ 0xA1 ∷ []
exchanging_text = refl

-- master 1 holds it and has not configured it yet
pub configuring_text :
    diagnosis_text (record exchanging { state = WaitCfg })
    ≡ 0x02 ∷ 0x0C ∷ 0x00 ∷ 0x01 ∷ 0x80 ∷ 0xA1 ∷ []
configuring_text = refl

-- the parameters had another ident number, and the slave was released
pub wrong_ident_text :
    diagnosis_text (record fresh { diag = record no_diagnosis { prm_fault = true } })
    ≡ 0x42 ∷ 0x05 ∷ 0x00 ∷ 0xFF ∷ 0x80 ∷ 0xA1 ∷ []
wrong_ident_text = refl

-- the configuration was another one, and the slave was released
pub wrong_configuration_text :
    diagnosis_text (record fresh { diag = record no_diagnosis { cfg_fault = true } })
    ≡ 0x06 ∷ 0x05 ∷ 0x00 ∷ 0xFF ∷ 0x80 ∷ 0xA1 ∷ []
wrong_configuration_text = refl

-- the application reported 03 01 FF
pub extended_text :
    diagnosis_text (record exchanging {
      diag = record no_diagnosis {
        ext = true;
        octets = record { items = 0x03 ∷ 0x01 ∷ 0xFF ∷ [] };
        unread = true;
      };
    })
    ≡ 0x08 ∷ 0x0C ∷ 0x00 ∷ 0x01 ∷ 0x80 ∷ 0xA1 ∷ 0x03 ∷ 0x01 ∷ 0xFF ∷ []
extended_text = refl

-- every bit that has a condition
abbrev pub every_bit : DiagFacts
every_bit = record fresh {
  wd_on = true;
  freeze_mode = true;
  sync_mode = true;
  diag = record no_diagnosis {
    ext = true;
    stat = true;
    overflow = true;
    prm_fault = true;
    cfg_fault = true;
    not_supported = true;
  };
}

pub every_bit_text : diagnosis_text every_bit ≡ 0x5E ∷ 0x3F ∷ 0x80 ∷ 0xFF ∷ 0x80 ∷ 0xA1 ∷ []
every_bit_text = refl
