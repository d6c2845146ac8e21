-- promise
-- The parts of a Global_Control, each on its own (IEC 61158-6-3, Global_Control request).
use Rattle.std.specs.Prelude.{true, false, ◌||◌, if◌then◌else◌}
use Rattle.dp_slave.specs.SlaveRecord.{SlaveRecord, output_length, zeros}
use Rattle.dp_slave.specs.Fields.{freeze_is_asked, left_again, sync_is_asked}

-- Clear_Data makes outputs and latest data zero, and a fail-safe slave cleared
abbrev pub emptied : SlaveRecord → SlaveRecord
emptied slave = record slave {
  outputs = zeros (output_length slave);
  latest = zeros (output_length slave);
  cleared = slave.description.failsafe || slave.cleared;
}

-- Unsync ends sync mode and puts the latest data out
abbrev pub unsynced : SlaveRecord → SlaveRecord
unsynced slave = record slave { sync_mode = false; outputs = slave.latest }

-- Sync puts the latest data out and starts sync mode, if the parameters asked for it
abbrev pub synced : SlaveRecord → SlaveRecord
synced slave = if sync_is_asked slave then record slave { sync_mode = true; outputs = slave.latest } else slave

-- Unfreeze ends freeze mode
abbrev pub unfrozen : SlaveRecord → SlaveRecord
unfrozen slave = record slave { freeze_mode = false }

-- Freeze copies the inputs and starts freeze mode, if the parameters asked for it
abbrev pub frozen : SlaveRecord → SlaveRecord
frozen slave = if freeze_is_asked slave then record slave { freeze_mode = true; frozen_inputs = slave.inputs } else slave

-- a watchdog that runs has its full time again
abbrev pub retriggered : SlaveRecord → SlaveRecord
retriggered slave = record slave { left = left_again slave }
