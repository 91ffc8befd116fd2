-- Worked examples of the texts of a run.
use Rattle.std.specs.Prelude.{◌≡◌, [], ◌∷◌, codes}
use Rattle.brick_spec.specs.CaptureFault.{CutRecord, Magic}
use Rattle.tenant_spec.specs.Tenant.{refused_text}
use Rattle.run_spec.specs.Report.{Done, BadCapture, Reported, outcome_text, line_text}

pub record ReportRows : Type 0 where
  -- a capture of no records, for three groups
  pub three_outputs : line_text (record {
    name = codes "a";
    end = Done (record {
      accepted = 0;
      refused = 0;
      drops = 0 ∷ 0 ∷ 0 ∷ 0 ∷ 0 ∷ 0 ∷ 0 ∷ 0 ∷ 0 ∷ [];
      outputs = record { name = codes "one"; items = 0 } ∷ record { name = codes "two"; items = 0 }
          ∷ record { name = codes "three"; items = 0 } ∷ [];
    });
  })
      ≡ codes "a done records=0 accepted=0 refused=0 Big=0 Unparsed=0 Fire=0 NoRoute=0 Ttl=0 NatFull=0 Filter=0 NoGroup=0 Reach=0 /one=0 /two=0 /three=0\n"
  -- records are those accepted, refused and Big
  pub counted : line_text (record {
    name = codes "b";
    end = Done (record {
      accepted = 990;
      refused = 8;
      drops = 2 ∷ 0 ∷ 1 ∷ 0 ∷ 0 ∷ 0 ∷ 0 ∷ 0 ∷ 3 ∷ [];
      outputs = record { name = codes "all"; items = 986 } ∷ [];
    });
  })
      ≡ codes "b done records=1000 accepted=990 refused=8 Big=2 Unparsed=0 Fire=1 NoRoute=0 Ttl=0 NatFull=0 Filter=0 NoGroup=0 Reach=3 /all=986\n"
  -- a capture that ends within its fourth record, and another one that begins with other bytes
  pub faults : outcome_text (Reported (record { name = codes "a"; end = BadCapture (CutRecord 3 210) }
      ∷ record { name = codes "b"; end = BadCapture (Magic 168627466) } ∷ []))
      ≡ codes "a bad-capture 5 CutRecord number=3 at=210\nb bad-capture 2 Magic word=0a0d0d0a\n"
  pub refused_records : refused_text (3 ∷ 10 ∷ 41 ∷ []) ≡ codes "3\n10\n41\n"
