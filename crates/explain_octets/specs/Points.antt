-- detail
-- Service access points in words (IEC 61158-6-3, service access points).
use Rattle.std.specs.Prelude.{codes, ℕ, List, [], ◌∷◌, ◌++◌, Option, Some, None}
use Rattle.std.specs.Fmt.{decimal}
use Rattle.explain_octets.specs.Words.{text_in}

-- the points of the access table and their services
abbrev pub points : List (ℕ × List ℕ)
points =
    (56, codes "RD_Inp")
    ∷ (57, codes "RD_Outp")
    ∷ (58, codes "Global_Control")
    ∷ (59, codes "Get_Cfg")
    ∷ (60, codes "Slave_Diag")
    ∷ (61, codes "Set_Prm")
    ∷ (62, codes "Chk_Cfg")
    ∷ []

-- points that no simulated slave has, and what they are for
abbrev pub unsimulated_points : List (ℕ × List ℕ)
unsimulated_points =
    (49, codes "MSAC_C2, DP-V1: not simulated")
    ∷ (50, codes "MSAL_C1, DP-V1: not simulated")
    ∷ (51, codes "MSAC_C1, DP-V1: not simulated")
    ∷ (54, codes "master to master: not simulated")
    ∷ (55, codes "Set_Slave_Add: not simulated")
    ∷ []

-- the service of the point with this number, by these rows
abbrev pub service_in : List (ℕ × List ℕ) → ℕ → Option (List ℕ)
service_in rows number = text_in rows number

-- what a point is for, after a space and in parentheses
abbrev pub purpose_text : Option (List ℕ) → List ℕ
purpose_text None = []
purpose_text (Some purpose) = codes " (" ++ purpose ++ codes ")"

-- a point that is not in the access table, by its number and by what it is for (own)
abbrev pub dsap_text : ℕ → List ℕ
dsap_text number = codes "DSAP " ++ decimal number ++ purpose_text (service_in unsimulated_points number)

-- a point of the access table by its service and its number, and any other point
abbrev pub numbered_text : Option (List ℕ) → ℕ → List ℕ
numbered_text None number = dsap_text number
numbered_text (Some service) number = service ++ codes " (" ++ decimal number ++ codes ")"

-- the default point has no number, and is that of Data_Exchange
abbrev pub point_text : Option ℕ → List ℕ
point_text None = codes "Data_Exchange"
point_text (Some number) = numbered_text (service_in points number) number

-- the point of the sender, if it has one, after a point of the access table
abbrev pub source_text : Option ℕ → List ℕ
source_text None = []
source_text (Some number) = codes " from " ++ decimal number

-- the point of the sender, if it has one, after any other point (own)
abbrev pub ssap_text : Option ℕ → List ℕ
ssap_text None = []
ssap_text (Some number) = codes ", SSAP " ++ decimal number

-- the point of a request and the point of its sender
abbrev pub numbered_access : Option (List ℕ) → ℕ → Option ℕ → List ℕ
numbered_access None number ssap = codes "DSAP " ++ decimal number ++ ssap_text ssap ++ purpose_text (service_in unsimulated_points number)
numbered_access (Some service) number ssap = service ++ codes " (" ++ decimal number ++ codes ")" ++ source_text ssap

abbrev pub access_text : Option ℕ → Option ℕ → List ℕ
access_text None ssap = codes "Data_Exchange" ++ source_text ssap
access_text (Some number) ssap = numbered_access (service_in points number) number ssap
