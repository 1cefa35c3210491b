mod RisingTimes
